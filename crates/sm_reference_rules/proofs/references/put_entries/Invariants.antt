use Rattle.std.proofs.Common.{take}
use Rattle.sm_tree.specs.View.{node_of}
use Rattle.sm_reference_rules.specs.steps.References.{ToldText}
use Rattle.sm_model.specs.GraphView.{maps_of}
use Rattle.sm_model.specs.Reaching.{id_of_number}
use Rattle.sm_rules.specs.RuleEvents.{Puts}
use Rattle.sm_passes.specs.Putting.{ToldOf}
use Rattle.sm_reference_rules.proofs.references.put_entries.Given as goal

abbrev pub invariant-loop-item : goal.invariant-loop-item
invariant-loop-item g l =
    let says = g.A.AtReference.tells l.rule (maps_of l.graph) (id_of_number l.graph l.shape) in
    Puts (ToldOf (λ t. ToldText (says l.relation) (node_of t)) (take l.item-index l.items)) l.fn.events.items l.events.items
