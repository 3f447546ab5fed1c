-- The run goes on through a vector of its bytes, ends at the first other byte of one, or goes on by single bytes.
use Rattle.std.proofs.Common.{sym, ap, ◌∙◌, arith}
use lib.Count.{count_trailing_zeros}
use Rattle.sm_json.specs.steps.StringRuns.{is_unescaped_ascii}
use Rattle.sm_json.proofs.LaneRuns.{run_within, run_through, run_stops}
use Rattle.sm_json.proofs.ascii_run.ascii_run_len.Goals as goal

pub returns-then-ends-ne0-clause-run : goal.returns-then-ends-ne0-clause-run
returns-then-ends-ne0-clause-run c =
    let ends = c.run_ends-ends in
    let run = run_stops is_unescaped_ascii c.args.bytes.now c.loop-at.at 16 (omega arith) (omega arith) (omega (arith, ends.ensures))
    ∙ ap (count_trailing_zeros 64) (sym ends.ensures) in
    omega (arith, run, c.loop-at.invariant.run)

pub returns-then-ends-ne0-clause-within : goal.returns-then-ends-ne0-clause-within
returns-then-ends-ne0-clause-within c =
    let ends = c.run_ends-ends in
    let run = run_stops is_unescaped_ascii c.args.bytes.now c.loop-at.at 16 (omega arith) (omega arith) (omega (arith, ends.ensures))
    ∙ ap (count_trailing_zeros 64) (sym ends.ensures) in
    omega (arith, run, run_within is_unescaped_ascii c.args.bytes.now c.loop-at.at c.loop-at.invariant.within)

pub loop-at-preserved : goal.loop-at-preserved
loop-at-preserved c =
    let run = run_through is_unescaped_ascii c.args.bytes.now c.loop-at.at 16 (omega arith) (omega (arith, c.run_ends-ends.ensures)) in
    record { run = omega (arith, run, c.loop-at.invariant.run); within = omega arith }
