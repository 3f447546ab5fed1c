use Rattle.std.proofs.Common.{ℕ, List, ◌++◌}
use Rattle.std.specs.Vec.Iter.{into_iter_items}
use Rattle.sm_groups.specs.Groups.{groups_view}
use Rattle.sm_merge.specs.steps.Tables.{AreListsOfNodes, ComeToRows, ComeToTraits, HoldGroups, pairs_views, places_view}
use Rattle.sm_merge.specs.declared.table.NamedValue.{NamedValue}
use Rattle.sm_merge.proofs.table.place_rows.Given as goal

abbrev pub invariant-loop-group : goal.invariant-loop-group
invariant-loop-group l = record {
  nodes : HoldGroups (λ key ps. AreListsOfNodes (pairs_views ps)) (groups_view (into_iter_items l.group-iterator));
  rows : (more : List (List ℕ × List NamedValue))
      → ComeToRows (λ ps vs. ComeToTraits (pairs_views ps) vs) (groups_view (into_iter_items l.group-iterator)) more
      → ComeToRows (λ ps vs. ComeToTraits (pairs_views ps) vs) (groups_view (into_iter_items l.initial.group-iterator))
      (places_view l.rows.items ++ more);
}
