use Rattle.std.proofs.Common.{◌<◌, ◌≤◌, ◌-◌, length}
use Rattle.sm_routes.specs.steps.Passing.{RowStandsSo}
use Rattle.sm_routes.proofs.passing.halved.Given as goal

abbrev pub invariant-halves : goal.invariant-halves
invariant-halves l = record {
  some : l.known < l.end;
  within : l.end ≤ length l.rows;
  behind : l.from ≤ l.known;
  so : RowStandsSo l.rows l.first l.stop l.known;
}

abbrev pub decreases-halves : goal.decreases-halves
decreases-halves l = l.end - l.known
