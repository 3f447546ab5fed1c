use Rattle.std.proofs.Common.{◌≤◌, length}
use Rattle.sm_model.specs.GraphView.{entries_of}
use Rattle.sm_http_rules.specs.steps.Routes.{AreRoutesBelow}
use Rattle.sm_http_rules.proofs.route_keys.route_rows.Given as goal

abbrev pub invariant-loop-number : goal.invariant-loop-number
invariant-loop-number l = record {
  within : l.number ≤ length (entries_of l.graph);
  rows : AreRoutesBelow l.graph l.number l.rows.items;
}
