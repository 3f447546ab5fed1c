use Rattle.std.proofs.Common.{◌≡◌, drop}
use Rattle.sm_tree.specs.Node.{nodes_of}
use Rattle.sm_tree.specs.View.{nodes_view}
use Rattle.sm_load.specs.Suppressions.{node_names, some_node}
use Rattle.sm_load.proofs.naming.some_names.Given as goal

abbrev pub invariant-loop-entry : goal.invariant-loop-entry
invariant-loop-entry l =
    some_node (node_names l.event) (nodes_of (nodes_view (drop l.entry-index l.entries))) ≡ some_node (node_names l.event)
    (nodes_of (nodes_view l.entries))
