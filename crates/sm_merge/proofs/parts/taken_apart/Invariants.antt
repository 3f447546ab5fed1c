use Rattle.std.proofs.Common.{◌≡◌, ◌++◌}
use Rattle.std.specs.List.{flat_map}
use Rattle.std.specs.Vec.Iter.{into_iter_items}
use Rattle.sm_tree.specs.View.{members_view}
use Rattle.sm_merge.specs.Places.{metadata_by}
use Rattle.sm_merge.specs.steps.Placed.{applied_by, bare_by, bares_view, placed_by, placed_view}
use Rattle.sm_merge.specs.steps.Rows.{rows_view}
use Rattle.sm_merge.proofs.parts.taken_apart.Given as goal

abbrev pub invariant-loop-row : goal.invariant-loop-row
invariant-loop-row l = record {
  traits : placed_view l.parts.traits.items ++ flat_map placed_by (rows_view (into_iter_items l.row-iterator))
      ≡ flat_map placed_by (rows_view (into_iter_items l.initial.row-iterator));
  metadata : members_view l.parts.metadata.items ++ flat_map metadata_by (rows_view (into_iter_items l.row-iterator))
      ≡ flat_map metadata_by (rows_view (into_iter_items l.initial.row-iterator));
  shapes : bares_view l.parts.shapes.items ++ flat_map bare_by (rows_view (into_iter_items l.row-iterator))
      ≡ flat_map bare_by (rows_view (into_iter_items l.initial.row-iterator));
  applied : l.parts.applied.items ++ flat_map applied_by (rows_view (into_iter_items l.row-iterator))
      ≡ flat_map applied_by (rows_view (into_iter_items l.initial.row-iterator));
}
