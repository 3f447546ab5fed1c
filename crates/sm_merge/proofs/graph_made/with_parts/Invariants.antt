use Rattle.std.proofs.Common.{◌≡◌, ◌++◌}
use Rattle.std.specs.Vec.Iter.{into_iter_items}
use Rattle.sm_model.specs.GivenView.{given_view}
use Rattle.sm_merge.specs.steps.Made.{parted_shapes}
use Rattle.sm_merge.proofs.graph_made.with_parts.Given as goal

abbrev pub invariant-loop-row : goal.invariant-loop-row
invariant-loop-row l =
    given_view l.shapes.items ++ parted_shapes (into_iter_items l.row-iterator) (into_iter_items l.parts)
    ≡ parted_shapes (into_iter_items l.initial.row-iterator) (into_iter_items l.initial.parts)
