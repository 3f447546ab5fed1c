use Rattle.std.proofs.Common.{◌≡◌, ◌≤◌, ◌++◌, drop}
use Rattle.sm_tree.specs.Node.{nodes_of, members_of}
use Rattle.sm_tree.specs.View.{node_of, nodes_view, members_view}
use Rattle.sm_tree.specs.steps.Weight.{weight, nodes_weight, members_weight}
use Rattle.sm_tree.proofs.copy.+copy.Given as goal

abbrev pub decreases-copy_tree : goal.decreases-copy_tree
decreases-copy_tree l = weight (node_of l.tree.now)

abbrev pub decreases-copy_entries : goal.decreases-copy_entries
decreases-copy_entries l = nodes_weight (nodes_of (nodes_view l.items.now))

abbrev pub decreases-copy_pairs : goal.decreases-copy_pairs
decreases-copy_pairs l = members_weight (members_of (members_view l.pairs.now))

abbrev pub invariant-copy_entries-loop-item : goal.invariant-copy_entries-loop-item
invariant-copy_entries-loop-item l = record {
  copied : nodes_view l.entries.items ++ nodes_view (drop l.item-index l.items) ≡ nodes_view l.items;
  weight : nodes_weight (nodes_of (nodes_view (drop l.item-index l.items))) ≤ nodes_weight (nodes_of (nodes_view l.items));
}

abbrev pub invariant-copy_pairs-loop-pair : goal.invariant-copy_pairs-loop-pair
invariant-copy_pairs-loop-pair l = record {
  copied : members_view l.members.items ++ members_view (drop l.pair-index l.pairs) ≡ members_view l.pairs;
  weight : members_weight (members_of (members_view (drop l.pair-index l.pairs))) ≤ members_weight (members_of (members_view l.pairs));
}
