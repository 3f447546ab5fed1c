use Rattle.std.proofs.Common.{◌≡◌, ◌≤◌, ◌++◌, [], drop}
use Rattle.sm_tree.specs.Node.{nodes_of, members_of}
use Rattle.sm_tree.specs.View.{node_of, nodes_view, members_view}
use Rattle.sm_tree.specs.steps.Weight.{weight, nodes_weight, members_weight}
use Rattle.sm_tree.specs.steps.Canonical.{entries_form, pair_forms}
use Rattle.sm_tree.proofs.same.+put.Given as goal

abbrev pub decreases-put : goal.decreases-put
decreases-put l = weight (node_of l.tree.now)

abbrev pub decreases-put_entries : goal.decreases-put_entries
decreases-put_entries l = nodes_weight (nodes_of (nodes_view l.items.now))

abbrev pub decreases-forms_of : goal.decreases-forms_of
decreases-forms_of l = members_weight (members_of (members_view l.pairs.now))

abbrev pub invariant-put_entries-loop-item : goal.invariant-put_entries-loop-item
invariant-put_entries-loop-item l = record {
  words : l.out ++ entries_form (nodes_of (nodes_view (drop l.item-index l.items))) ≡ l.fn.out ++ entries_form
      (nodes_of (nodes_view l.items));
  weight : nodes_weight (nodes_of (nodes_view (drop l.item-index l.items))) ≤ nodes_weight (nodes_of (nodes_view l.items));
}

abbrev pub invariant-forms_of-loop-pair : goal.invariant-forms_of-loop-pair
invariant-forms_of-loop-pair l = record {
  forms : pair_forms l.forms.keys (members_of (members_view (drop l.pair-index l.pairs))) ≡ pair_forms []
      (members_of (members_view l.pairs));
  weight : members_weight (members_of (members_view (drop l.pair-index l.pairs))) ≤ members_weight (members_of (members_view l.pairs));
}
