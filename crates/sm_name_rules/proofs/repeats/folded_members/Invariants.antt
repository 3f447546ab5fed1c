use Rattle.std.proofs.Common.{◌≡◌, ◌++◌, drop}
use Rattle.sm_model.specs.GraphView.{AreShapeNumbers}
use Rattle.sm_passes.specs.Earlier.{folded_rows}
use Rattle.sm_name_rules.proofs.repeats.folded_members.Given as goal

abbrev pub invariant-loop-member : goal.invariant-loop-member
invariant-loop-member l = record {
  numbers : AreShapeNumbers l.graph (drop l.member-index l.members);
  rows : l.rows.items ++ folded_rows l.graph (drop l.member-index l.members) ≡ folded_rows l.graph l.members;
}
