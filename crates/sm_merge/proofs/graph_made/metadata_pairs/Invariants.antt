use Rattle.std.proofs.Common.{◌≡◌, ◌++◌}
use Rattle.std.specs.Vec.Iter.{into_iter_items}
use Rattle.sm_tree.specs.View.{members_view}
use Rattle.sm_merge.specs.steps.Made.{metadata_pairs}
use Rattle.sm_merge.proofs.graph_made.metadata_pairs.Given as goal

abbrev pub invariant-loop-row : goal.invariant-loop-row
invariant-loop-row l =
    members_view l.pairs.items ++ metadata_pairs (into_iter_items l.row-iterator) ≡ metadata_pairs (into_iter_items l.initial.row-iterator)
