use Rattle.std.proofs.Common.{take}
use Rattle.sm_reference_rules.specs.steps.References.{ToldPair}
use Rattle.sm_model.specs.GraphView.{maps_of}
use Rattle.sm_model.specs.Reaching.{id_of_number}
use Rattle.sm_rules.specs.RuleEvents.{Puts}
use Rattle.sm_passes.specs.Putting.{ToldOf}
use Rattle.sm_reference_rules.proofs.references.put_fields.Given as goal

abbrev pub invariant-loop-pair : goal.invariant-loop-pair
invariant-loop-pair g l =
    let says = g.A.AtReference.tells l.rule (maps_of l.graph) (id_of_number l.graph l.shape) in
    Puts (ToldOf (ToldPair says l.kind) (take l.pair-index l.pairs)) l.fn.events.items l.events.items
