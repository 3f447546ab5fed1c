use Rattle.std.proofs.Common.{◌≡◌, ◌+◌, ◌^◌, ◌<◌, ◌≤◌, length, drop}
use Rattle.sm_tree.specs.Node.{nodes_of, members_of}
use Rattle.sm_tree.specs.View.{node_of, nodes_view, members_view}
use Rattle.sm_tree.specs.steps.Weight.{weight, nodes_weight, members_weight}
use Rattle.sm_bytes.specs.Lengths.{length_word}
use Rattle.sm_cbor.specs.Written.{written_item_entries, written_item_pairs}
use Rattle.sm_cbor.proofs.length.+lengths.Given as goal

abbrev pub decreases-encoded_len : goal.decreases-encoded_len
decreases-encoded_len l = weight (node_of l.tree.now)

abbrev pub decreases-entries_len : goal.decreases-entries_len
decreases-entries_len l = nodes_weight (nodes_of (nodes_view l.items.now))

abbrev pub decreases-pairs_len : goal.decreases-pairs_len
decreases-pairs_len l = members_weight (members_of (members_view l.pairs.now))

abbrev pub invariant-entries_len-loop-item : goal.invariant-entries_len-loop-item
invariant-entries_len-loop-item l = record {
  length : length_word (l.len + length (written_item_entries (nodes_of (nodes_view (drop l.item-index l.items))))) ≡ length_word
      (length (written_item_entries (nodes_of (nodes_view l.items))));
  word : l.len < 2 ^ 64;
  weight : nodes_weight (nodes_of (nodes_view (drop l.item-index l.items))) ≤ nodes_weight (nodes_of (nodes_view l.items));
}

abbrev pub invariant-pairs_len-loop-pair : goal.invariant-pairs_len-loop-pair
invariant-pairs_len-loop-pair l = record {
  length : length_word (l.len + length (written_item_pairs (members_of (members_view (drop l.pair-index l.pairs))))) ≡ length_word
      (length (written_item_pairs (members_of (members_view l.pairs))));
  word : l.len < 2 ^ 64;
  weight : members_weight (members_of (members_view (drop l.pair-index l.pairs))) ≤ members_weight (members_of (members_view l.pairs));
}
