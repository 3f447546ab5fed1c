use Rattle.std.proofs.Common.{◌≡◌, ℕ, List, drop, bytes_eq}
use Rattle.std.specs.Prelude.{◌||◌}
use Rattle.std.specs.List.{list_any}
use Rattle.sm_tree.specs.Node.{nodes_of}
use Rattle.sm_tree.specs.View.{node_of, nodes_view}
use Rattle.sm_merge.specs.Mixins.{local_traits, texts_among}
use Rattle.sm_merge.specs.steps.Known.{has_text}
use Rattle.sm_merge.proofs.effective_local.local_names.Given as goal

abbrev pub invariant-loop-entry : goal.invariant-loop-entry
invariant-loop-entry l = (id : List ℕ)
    → (has_text l.names id || list_any (bytes_eq id) (texts_among (nodes_of (nodes_view (drop l.entry-index l.entries)))))
    ≡ list_any (bytes_eq id) (local_traits (node_of l.value))
