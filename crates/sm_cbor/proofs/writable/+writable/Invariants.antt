use Rattle.std.proofs.Common.{◌≤◌, ◌↔◌, drop}
use Rattle.sm_tree.specs.Json.{AreCbor, AreCborMembers}
use Rattle.sm_tree.specs.Node.{nodes_of, members_of}
use Rattle.sm_tree.specs.View.{node_of, nodes_view, members_view}
use Rattle.sm_tree.specs.steps.Weight.{weight, nodes_weight, members_weight}
use Rattle.sm_cbor.proofs.writable.+writable.Given as goal

abbrev pub decreases-is_writable : goal.decreases-is_writable
decreases-is_writable l = weight (node_of l.tree.now)

abbrev pub decreases-entries_are_writable : goal.decreases-entries_are_writable
decreases-entries_are_writable l = nodes_weight (nodes_of (nodes_view l.items.now))

abbrev pub decreases-pairs_are_writable : goal.decreases-pairs_are_writable
decreases-pairs_are_writable l = members_weight (members_of (members_view l.pairs.now))

abbrev pub invariant-entries_are_writable-loop-item : goal.invariant-entries_are_writable-loop-item
invariant-entries_are_writable-loop-item l = record {
  writable : AreCbor (nodes_of (nodes_view (drop l.item-index l.items))) ↔ AreCbor (nodes_of (nodes_view l.items));
  weight : nodes_weight (nodes_of (nodes_view (drop l.item-index l.items))) ≤ nodes_weight (nodes_of (nodes_view l.items));
}

abbrev pub invariant-pairs_are_writable-loop-pair : goal.invariant-pairs_are_writable-loop-pair
invariant-pairs_are_writable-loop-pair l = record {
  writable : AreCborMembers (members_of (members_view (drop l.pair-index l.pairs))) ↔ AreCborMembers (members_of (members_view l.pairs));
  weight : members_weight (members_of (members_view (drop l.pair-index l.pairs))) ≤ members_weight (members_of (members_view l.pairs));
}
