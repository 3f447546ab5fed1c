use Rattle.std.proofs.Common.{◌≤◌, drop}
use Rattle.sm_tree.specs.Node.{nodes_of, members_of}
use Rattle.sm_tree.specs.View.{node_of, nodes_view, members_view}
use Rattle.sm_tree.specs.steps.Weight.{weight, nodes_weight, members_weight}
use Rattle.transform_rows.proofs.tree.+show.Given as goal

abbrev pub decreases-show_tree : goal.decreases-show_tree
decreases-show_tree l = weight (node_of l.tree.now)

abbrev pub decreases-show_items : goal.decreases-show_items
decreases-show_items l = nodes_weight (nodes_of (nodes_view l.items.now))

abbrev pub decreases-show_pairs : goal.decreases-show_pairs
decreases-show_pairs l = members_weight (members_of (members_view l.pairs.now))

abbrev pub invariant-show_items-loop-item : goal.invariant-show_items-loop-item
invariant-show_items-loop-item l = nodes_weight (nodes_of (nodes_view (drop l.item-index l.items)))
    ≤ nodes_weight (nodes_of (nodes_view l.items))

abbrev pub invariant-show_pairs-loop-pair : goal.invariant-show_pairs-loop-pair
invariant-show_pairs-loop-pair l = members_weight (members_of (members_view (drop l.pair-index l.pairs)))
    ≤ members_weight (members_of (members_view l.pairs))
