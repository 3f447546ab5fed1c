-- A long character and plain ones behind a run are a run.
use Rattle.std.proofs.Common.{◌+◌}
use Rattle.sm_json.proofs.Runs.{run_on}
use Rattle.sm_json.proofs.utf8.plain_len.Goals as goal

pub loop-at-preserved : goal.loop-at-preserved
loop-at-preserved c =
    let one = run_on c.loop-at.at c.long_len-long.result c.args.bytes.now c.loop-at.invariant.within c.loop-at.invariant.run
    c.long_len-long.ensures.within c.long_len-long.ensures.run in
    let two = run_on (c.loop-at.at + c.long_len-long.result) c.ascii_len-plain.result c.args.bytes.now one.0 one.1
    c.ascii_len-plain.ensures.within c.ascii_len-plain.ensures.run in
    record { within = two.0; run = two.1 }
