use Rattle.std.proofs.Common.{drop, take}
use Rattle.sm_model.specs.GraphView.{AreShapeNumbers}
use Rattle.sm_http_rules.specs.steps.Labels.{AreBound}
use Rattle.sm_http_rules.proofs.label_rows.bound_among.Given as goal

abbrev pub invariant-loop-member : goal.invariant-loop-member
invariant-loop-member l = record {
  numbers : AreShapeNumbers l.graph (drop l.member-index l.members);
  rows : AreBound l.graph l.input (take l.member-index l.members) l.rows.items;
}
