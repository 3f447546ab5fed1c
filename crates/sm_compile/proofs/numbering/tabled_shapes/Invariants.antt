use Rattle.std.proofs.Common.{◌≡◌}
use Rattle.sm_model.specs.GraphView.{AreShapeNumbers}
use Rattle.sm_compile.specs.Tabling.{tabled_below}
use Rattle.sm_compile.proofs.numbering.tabled_shapes.Given as goal

abbrev pub invariant-loop-number : goal.invariant-loop-number
invariant-loop-number l = record {
  numbers : AreShapeNumbers l.graph l.shapes.items;
  shapes : l.shapes.items ≡ tabled_below l.graph l.marks l.number;
}
