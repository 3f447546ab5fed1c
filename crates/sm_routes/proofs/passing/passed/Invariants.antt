use Rattle.std.proofs.Common.{◌<◌, ◌≤◌, ◌-◌, length}
use Rattle.sm_routes.specs.steps.Passing.{RowStandsSo}
use Rattle.sm_routes.proofs.passing.passed.Given as goal

abbrev pub invariant-steps : goal.invariant-steps
invariant-steps l = record {
  some : 0 < l.step;
  within : l.known < length l.rows;
  behind : l.at ≤ l.known;
  so : RowStandsSo l.rows l.first l.stop l.known;
}

abbrev pub decreases-steps : goal.decreases-steps
decreases-steps l = length l.rows - l.known
