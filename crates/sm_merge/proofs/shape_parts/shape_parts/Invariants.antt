use Rattle.std.proofs.Common.{◌≡◌, ◌++◌, List, drop}
use Rattle.std.specs.Slice.Iter.{iter_rest}
use Rattle.sm_merge.specs.steps.Made.{AreAllSound, made_shapes, parted_shapes}
use Rattle.sm_merge.specs.declared.shape_parts.ShapePart.{ShapePart}
use Rattle.sm_merge.proofs.shape_parts.shape_parts.Given as goal

abbrev pub invariant-loop-row : goal.invariant-loop-row
invariant-loop-row l = record {
  sound : AreAllSound (iter_rest l.tables);
  parts : (more : List ShapePart)
      → parted_shapes (drop l.row-index l.rows) more ≡ made_shapes (drop l.row-index l.rows) (iter_rest l.lists) (iter_rest l.tables)
      → parted_shapes l.rows (l.parts.items ++ more) ≡ made_shapes l.rows l.members l.traits;
}
