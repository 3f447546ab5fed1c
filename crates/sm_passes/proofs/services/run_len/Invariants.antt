use Rattle.std.proofs.Common.{length, take, ◌<◌, ◌≤◌}
use Rattle.sm_passes.specs.steps.Groups.{HaveSteps}
use Rattle.sm_passes.proofs.services.run_len.Given as goal

abbrev pub invariant-loop-place : goal.invariant-loop-place
invariant-loop-place l = record {
  some : 0 < l.place;
  within : l.place ≤ length l.rows;
  same : HaveSteps l.steps (take l.place l.rows);
}
