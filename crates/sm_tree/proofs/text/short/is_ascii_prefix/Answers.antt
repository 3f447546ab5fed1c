use Rattle.std.proofs.Common.{arith, take}
use Rattle.sm_tree.proofs.ShortTexts.{one_more_seen, all_seen, all_utf8}
use Rattle.sm_tree.proofs.text.short.is_ascii_prefix.Goals as goal

pub loop-at-preserved : goal.loop-at-preserved
loop-at-preserved c = one_more_seen c.loop-at.ascii c.args.len c.loop-at.at c.args.bytes.now c.loop-at.invariant

pub returns-clause-ascii : goal.returns-clause-ascii
returns-clause-ascii c = all_seen c.loop-at.ascii c.args.len c.loop-at.at c.args.bytes.now (omega arith) (omega arith) c.loop-at.invariant

pub returns-clause-utf8 : goal.returns-clause-utf8
returns-clause-utf8 c = all_utf8 c.loop-at.ascii (take c.args.len c.args.bytes.now) (returns-clause-ascii c)
