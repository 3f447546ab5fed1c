use Rattle.std.proofs.Common.{◌≡◌, ℕ, List, drop}
use Rattle.std.specs.Prelude.{◌||◌}
use Rattle.sm_tree.specs.Node.{nodes_of}
use Rattle.sm_tree.specs.View.{nodes_view}
use Rattle.sm_model.specs.GraphView.{maps_of}
use Rattle.sm_merge.specs.steps.Known.{has_text}
use Rattle.sm_load.specs.Suppressions.{entry_names, is_suppressed_in, some_node}
use Rattle.sm_load.proofs.suppressing.namespaces_for.Given as goal

abbrev pub invariant-loop-entry : goal.invariant-loop-entry
invariant-loop-entry l = (namespace : List ℕ)
    → (has_text l.namespaces namespace || some_node (entry_names l.event namespace) (nodes_of (nodes_view (drop l.entry-index l.entries))))
    ≡ is_suppressed_in (maps_of l.graph) namespace l.event
