use Rattle.std.proofs.Common.{◌≡◌, ◌≤◌, ◌++◌, drop}
use Rattle.sm_tree.specs.Json.{AreJson, AreJsonMembers}
use Rattle.sm_tree.specs.Node.{nodes_of, members_of}
use Rattle.sm_tree.specs.View.{node_of, nodes_view, members_view}
use Rattle.sm_tree.specs.steps.Weight.{weight, nodes_weight, members_weight}
use Rattle.sm_model.specs.Raw.{node_raws, member_raws}
use Rattle.sm_model.specs.RawView.{raws_view, raw_members_view}
use Rattle.sm_ast.proofs.statements.node.+copy.Given as goal

abbrev pub decreases-raw_node : goal.decreases-raw_node
decreases-raw_node l = weight (node_of l.tree.now)

abbrev pub decreases-raw_entries : goal.decreases-raw_entries
decreases-raw_entries l = nodes_weight (nodes_of (nodes_view l.items.now))

abbrev pub decreases-raw_pairs : goal.decreases-raw_pairs
decreases-raw_pairs l = members_weight (members_of (members_view l.pairs.now))

abbrev pub invariant-raw_entries-loop-item : goal.invariant-raw_entries-loop-item
invariant-raw_entries-loop-item l = record {
  json : AreJson (nodes_of (nodes_view (drop l.item-index l.items)));
  said : raws_view l.entries.items ++ node_raws (nodes_of (nodes_view (drop l.item-index l.items))) ≡ node_raws
      (nodes_of (nodes_view l.items));
  weight : nodes_weight (nodes_of (nodes_view (drop l.item-index l.items))) ≤ nodes_weight (nodes_of (nodes_view l.items));
}

abbrev pub invariant-raw_pairs-loop-pair : goal.invariant-raw_pairs-loop-pair
invariant-raw_pairs-loop-pair l = record {
  json : AreJsonMembers (members_of (members_view (drop l.pair-index l.pairs)));
  said : raw_members_view l.members.items ++ member_raws (members_of (members_view (drop l.pair-index l.pairs)))
      ≡ member_raws (members_of (members_view l.pairs));
  weight : members_weight (members_of (members_view (drop l.pair-index l.pairs))) ≤ members_weight (members_of (members_view l.pairs));
}
