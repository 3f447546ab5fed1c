-- The source tells its bytes, and nothing is held yet.
use Rattle.std.proofs.Common.{arith}
use Rattle.speeds.proofs.Told.{message_at, none_held}
use Rattle.speeds.proofs.http_messages.turns.read_once.Goals as goal

pub read_first-requires : goal.read_first-requires
read_first-requires c = none_held c.args.held.now (omega (arith, c.len.ensures.count, c.if-len-eq0.true))

pub returns-then-len-eq0 : goal.returns-then-len-eq0
returns-then-len-eq0 c = message_at c.args.side c.args.bytes.now _ c.read_first.result c.new-source.ensures.left c.read_first.ensures

pub returns : goal.returns
returns c = message_at c.args.side c.args.bytes.now _ c.read_first-2.result c.new-source.ensures.left c.read_first-2.ensures
