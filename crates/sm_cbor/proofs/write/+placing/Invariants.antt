use Rattle.std.proofs.Common.{◌≡◌, ◌+◌, ◌≤◌, ◌++◌, length, take, drop}
use Rattle.sm_tree.specs.Node.{nodes_of, members_of}
use Rattle.sm_tree.specs.View.{node_of, nodes_view, members_view}
use Rattle.sm_tree.specs.steps.Weight.{weight, nodes_weight, members_weight}
use Rattle.sm_cbor.specs.Written.{written_item_entries, written_item_pairs}
use Rattle.sm_cbor.proofs.write.+placing.Given as goal

abbrev pub decreases-place_tree : goal.decreases-place_tree
decreases-place_tree l = weight (node_of l.tree.now)

abbrev pub decreases-place_entries : goal.decreases-place_entries
decreases-place_entries l = nodes_weight (nodes_of (nodes_view l.items.now))

abbrev pub decreases-place_pairs : goal.decreases-place_pairs
decreases-place_pairs l = members_weight (members_of (members_view l.pairs.now))

abbrev pub invariant-place_entries-loop-item : goal.invariant-place_entries-loop-item
invariant-place_entries-loop-item l = record {
  bytes : take l.at l.buf ++ written_item_entries (nodes_of (nodes_view (drop l.item-index l.items))) ≡ take l.fn.at
      l.fn.buf ++ written_item_entries (nodes_of (nodes_view l.items));
  next : l.at + length (written_item_entries (nodes_of (nodes_view (drop l.item-index l.items)))) ≡ l.fn.at + length
      (written_item_entries (nodes_of (nodes_view l.items)));
  weight : nodes_weight (nodes_of (nodes_view (drop l.item-index l.items))) ≤ nodes_weight (nodes_of (nodes_view l.items));
}

abbrev pub invariant-place_pairs-loop-pair : goal.invariant-place_pairs-loop-pair
invariant-place_pairs-loop-pair l = record {
  bytes : take l.at l.buf ++ written_item_pairs (members_of (members_view (drop l.pair-index l.pairs))) ≡ take l.fn.at
      l.fn.buf ++ written_item_pairs (members_of (members_view l.pairs));
  next : l.at + length (written_item_pairs (members_of (members_view (drop l.pair-index l.pairs)))) ≡ l.fn.at + length
      (written_item_pairs (members_of (members_view l.pairs)));
  weight : members_weight (members_of (members_view (drop l.pair-index l.pairs))) ≤ members_weight (members_of (members_view l.pairs));
}
