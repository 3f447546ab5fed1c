use Rattle.std.proofs.Common.{◌≡◌, ◌+◌, ◌≤◌, drop}
use Rattle.sm_bytes.specs.Lengths.{length_word}
use Rattle.sm_tree.specs.Node.{nodes_of, members_of}
use Rattle.sm_tree.specs.Size.{nodes_size, members_size}
use Rattle.sm_tree.specs.View.{node_of, nodes_view, members_view}
use Rattle.sm_tree.specs.steps.Weight.{weight, nodes_weight, members_weight}
use Rattle.sm_tree.proofs.size.+size.Given as goal

abbrev pub decreases-tree_size : goal.decreases-tree_size
decreases-tree_size l = weight (node_of l.tree.now)

abbrev pub decreases-list_size : goal.decreases-list_size
decreases-list_size l = nodes_weight (nodes_of (nodes_view l.items.now))

abbrev pub decreases-object_size : goal.decreases-object_size
decreases-object_size l = members_weight (members_of (members_view l.pairs.now))

abbrev pub invariant-list_size-loop-item : goal.invariant-list_size-loop-item
invariant-list_size-loop-item l = record {
  size : length_word (l.size + nodes_size (nodes_of (nodes_view (drop l.item-index l.items)))) ≡ length_word
      (nodes_size (nodes_of (nodes_view l.items)));
  weight : nodes_weight (nodes_of (nodes_view (drop l.item-index l.items))) ≤ nodes_weight (nodes_of (nodes_view l.items));
}

abbrev pub invariant-object_size-loop-pair : goal.invariant-object_size-loop-pair
invariant-object_size-loop-pair l = record {
  size : length_word (l.size + members_size (members_of (members_view (drop l.pair-index l.pairs)))) ≡ length_word
      (members_size (members_of (members_view l.pairs)));
  weight : members_weight (members_of (members_view (drop l.pair-index l.pairs))) ≤ members_weight (members_of (members_view l.pairs));
}
