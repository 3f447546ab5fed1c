-- A byte and the digits behind it make the run longer.
use Rattle.std.proofs.Common.{◌≤◌, ◌-◌, ◌+◌, length, drop, arith}
use Rattle.std.proofs.lemmas.List.{length-take}
use Rattle.sm_tree.proofs.NumberRuns.{run_leads, run_bytes}
use Rattle.sm_tree.proofs.number.number_run.Goals as goal

pub loop-run-preserved : goal.loop-run-preserved
loop-run-preserved c =
    let inv = c.loop-run.invariant in
    let few : c.more_digits.result ≤ length c.args.bytes.now - (c.loop-run.run.count + 1) = omega (
      arith,
      c.more_digits.ensures.within,
      length-take (length c.args.bytes.now - (c.loop-run.run.count + 1))
          (drop (c.loop-run.run.count + 1) c.args.bytes.now),
    ) in
    record {
      within = omega arith;
      taken = run_leads _ _ _ _ _ _ c.loop-run-test.true few inv.taken c.in-Some.ensures.0 c.more_digits.ensures.stays;
      bytes = run_bytes _ _ _ c.loop-run-test.true few inv.bytes c.in-Some.ensures.1 c.more_digits.ensures.digits;
    }
