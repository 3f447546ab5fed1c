use Rattle.std.proofs.Common.{◌≡◌, ◌++◌, ℕ, List}
use Rattle.std.specs.List.{flat_map}
use Rattle.std.specs.Vec.Iter.{into_iter_items}
use Rattle.sm_groups.specs.Groups.{groups_view}
use Rattle.sm_merge.specs.steps.ShapeTables.{ArePicked, AreSoundUnder, kept_of}
use Rattle.sm_merge.specs.steps.Tables.{HoldGroups}
use Rattle.sm_merge.proofs.shapes.shape_table.Given as goal

abbrev pub invariant-loop-group : goal.invariant-loop-group
invariant-loop-group l = record {
  sound : HoldGroups AreSoundUnder (groups_view (into_iter_items l.group-iterator));
  rows : l.shapes.rows.items ++ flat_map kept_of (groups_view (into_iter_items l.group-iterator))
      ≡ flat_map kept_of (groups_view (into_iter_items l.initial.group-iterator));
  wrong : (more : List (List ℕ)) → ArePicked (groups_view (into_iter_items l.group-iterator)) more
      → ArePicked (groups_view (into_iter_items l.initial.group-iterator)) (l.shapes.wrong.items ++ more);
}
