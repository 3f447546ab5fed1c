use Rattle.std.proofs.Common.{take}
use Rattle.sm_tree.specs.Node.{nodes_of}
use Rattle.sm_tree.specs.View.{nodes_view}
use Rattle.sm_model.specs.GraphView.{maps_of}
use Rattle.sm_model.specs.Reaching.{id_of_number}
use Rattle.sm_model.specs.Relations.{IsEntryText}
use Rattle.sm_model.specs.Joins.{Joins}
use Rattle.sm_trait_rules.specs.steps.Conflicting.{HasText, IsGreaterOfAny}
use Rattle.sm_trait_rules.proofs.conflicts.take_entries.Given as goal

abbrev pub invariant-loop-entry : goal.invariant-loop-entry
invariant-loop-entry l =
    Joins (HasText l.fn.told.texts)
    (IsGreaterOfAny (maps_of l.graph) (id_of_number l.graph l.number) l.name
    (λ o. IsEntryText o (nodes_of (nodes_view (take l.entry-index l.conflicts))))) (HasText l.told.texts)
