use Rattle.std.proofs.Common.{◌≡◌, ◌≤◌, [], drop, take, map}
use Rattle.sm_tree.specs.Node.{nodes_of, members_of}
use Rattle.sm_tree.specs.View.{node_of, nodes_view, members_view}
use Rattle.sm_tree.specs.steps.Weight.{weight, nodes_weight, members_weight}
use Rattle.sm_ast.specs.Faults.{nodes_fault, members_fault}
use Rattle.sm_ast.specs.steps.Checks.{Remembers}
use Rattle.sm_ast.proofs.check.node.+check.Given as goal

abbrev pub decreases-check_node : goal.decreases-check_node
decreases-check_node l = weight (node_of l.tree.now)

abbrev pub decreases-check_nodes : goal.decreases-check_nodes
decreases-check_nodes l = nodes_weight (nodes_of (nodes_view l.items.now))

abbrev pub decreases-check_members : goal.decreases-check_members
decreases-check_members l = members_weight (members_of (members_view l.pairs.now))

abbrev pub invariant-check_nodes-loop-item : goal.invariant-check_nodes-loop-item
invariant-check_nodes-loop-item l = record {
  at : l.at ≡ l.item-index;
  fault : nodes_fault 0 (nodes_of (nodes_view l.items)) ≡ nodes_fault l.at (nodes_of (nodes_view (drop l.item-index l.items)));
  weight : nodes_weight (nodes_of (nodes_view (drop l.item-index l.items))) ≤ nodes_weight (nodes_of (nodes_view l.items));
}

abbrev pub invariant-check_members-loop-pair : goal.invariant-check_members-loop-pair
invariant-check_members-loop-pair l = record {
  seen : Remembers l.seen (map (λ p. p.0) (take l.pair-index l.pairs));
  fault : members_fault [] (members_of (members_view l.pairs))
      ≡ members_fault (map (λ p. p.0) (take l.pair-index l.pairs)) (members_of (members_view (drop l.pair-index l.pairs)));
  weight : members_weight (members_of (members_view (drop l.pair-index l.pairs))) ≤ members_weight (members_of (members_view l.pairs));
}
