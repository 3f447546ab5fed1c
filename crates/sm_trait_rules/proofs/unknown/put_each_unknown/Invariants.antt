use Rattle.std.proofs.Common.{take}
use Rattle.sm_model.specs.GraphView.{maps_of}
use Rattle.sm_model.specs.Reaching.{id_of_number}
use Rattle.sm_rules.specs.RuleEvents.{Puts}
use Rattle.sm_trait_rules.specs.steps.Knowing.{ToldUnknown}
use Rattle.sm_passes.specs.Putting.{ToldOf}
use Rattle.sm_trait_rules.proofs.unknown.put_each_unknown.Given as goal

abbrev pub invariant-loop-pair : goal.invariant-loop-pair
invariant-loop-pair l =
    Puts (ToldOf (ToldUnknown (maps_of l.graph) (id_of_number l.graph l.number)) (take l.pair-index l.traits)) l.fn.events.items
    l.events.items
