use Rattle.std.proofs.Common.{◌≡◌, length}
use Rattle.sm_compile.specs.steps.Numbered.{EachAt}
use Rattle.sm_compile.specs.steps.Valued.{HasValuesAt}
use Rattle.sm_compile.proofs.values.values_of_shapes.Given as goal

abbrev pub invariant-loop-shape : goal.invariant-loop-shape
invariant-loop-shape l = record {
  long : length l.values.items ≡ l.shape-index;
  each : EachAt (HasValuesAt l.graph l.shapes) l.values.items;
}
