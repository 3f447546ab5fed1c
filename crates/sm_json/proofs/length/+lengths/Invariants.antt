use Rattle.std.proofs.Common.{◌≡◌, ◌+◌, ◌≤◌, length, drop}
use Rattle.sm_tree.specs.Node.{nodes_of, members_of}
use Rattle.sm_tree.specs.View.{node_of, nodes_view, members_view}
use Rattle.sm_tree.specs.steps.Weight.{weight, nodes_weight, members_weight}
use Rattle.sm_bytes.specs.Lengths.{length_word}
use Rattle.sm_json.specs.Written.{more_written_entries, more_written_pairs}
use Rattle.sm_json.proofs.length.+lengths.Given as goal

abbrev pub decreases-encoded_len : goal.decreases-encoded_len
decreases-encoded_len l = weight (node_of l.tree.now)

abbrev pub decreases-entries_len : goal.decreases-entries_len
decreases-entries_len l = nodes_weight (nodes_of (nodes_view l.items.now))

abbrev pub decreases-more_entries_len : goal.decreases-more_entries_len
decreases-more_entries_len l = nodes_weight (nodes_of (nodes_view l.items.now))

abbrev pub decreases-pairs_len : goal.decreases-pairs_len
decreases-pairs_len l = members_weight (members_of (members_view l.pairs.now))

abbrev pub decreases-more_pairs_len : goal.decreases-more_pairs_len
decreases-more_pairs_len l = members_weight (members_of (members_view l.pairs.now))

abbrev pub invariant-more_entries_len-loop-item : goal.invariant-more_entries_len-loop-item
invariant-more_entries_len-loop-item l = record {
  length : length_word (l.len + length (more_written_entries (nodes_of (nodes_view (drop l.item-index l.items))))) ≡ length_word
      (length (more_written_entries (nodes_of (nodes_view l.items))));
  weight : nodes_weight (nodes_of (nodes_view (drop l.item-index l.items))) ≤ nodes_weight (nodes_of (nodes_view l.items));
}

abbrev pub invariant-more_pairs_len-loop-pair : goal.invariant-more_pairs_len-loop-pair
invariant-more_pairs_len-loop-pair l = record {
  length : length_word (l.len + length (more_written_pairs (members_of (members_view (drop l.pair-index l.pairs))))) ≡ length_word
      (length (more_written_pairs (members_of (members_view l.pairs))));
  weight : members_weight (members_of (members_view (drop l.pair-index l.pairs))) ≤ members_weight (members_of (members_view l.pairs));
}
