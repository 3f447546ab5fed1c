use Rattle.std.proofs.Common.{◌≡◌, ◌++◌, drop}
use Rattle.sm_model.specs.GraphView.{AreShapeNumbers}
use Rattle.sm_http_rules.specs.steps.Naming.{name_rows}
use Rattle.sm_http_rules.proofs.again.name_rows.Given as goal

abbrev pub invariant-loop-member : goal.invariant-loop-member
invariant-loop-member l = record {
  numbers : AreShapeNumbers l.graph (drop l.member-index l.members);
  rows : l.rows.items ++ name_rows l.naming l.graph l.shape (drop l.member-index l.members) ≡ name_rows l.naming l.graph l.shape l.members;
}
