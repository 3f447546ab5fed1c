use Rattle.std.proofs.Common.{ℕ, List, ◌++◌}
use Rattle.std.specs.Vec.Iter.{into_iter_items}
use Rattle.sm_tree.specs.View.{nodes_view}
use Rattle.sm_merge.specs.steps.Folding.{AreNodes, IsFolded}
use Rattle.sm_groups.specs.Groups.{groups_view}
use Rattle.sm_merge.specs.steps.Tables.{ComeToRows, HoldGroups, named_view}
use Rattle.sm_merge.specs.declared.value.Folded.{Folded}
use Rattle.sm_merge.proofs.table.named_values.Given as goal

abbrev pub invariant-loop-group : goal.invariant-loop-group
invariant-loop-group l = record {
  nodes : HoldGroups (λ key ts. AreNodes (nodes_view ts)) (groups_view (into_iter_items l.group-iterator));
  rows : (more : List (List ℕ × Folded))
      → ComeToRows (λ ts f. IsFolded (nodes_view ts) f) (groups_view (into_iter_items l.group-iterator)) more
      → ComeToRows (λ ts f. IsFolded (nodes_view ts) f) (groups_view (into_iter_items l.initial.group-iterator))
      (named_view l.values.items ++ more);
}
