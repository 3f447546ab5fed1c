use Rattle.std.proofs.Common.{take}
use Rattle.sm_model.specs.Reaching.{id_of_number}
use Rattle.sm_rules.specs.RuleEvents.{Puts}
use Rattle.sm_passes.specs.Putting.{ToldOf}
use Rattle.sm_trait_rules.specs.steps.Conflicting.{ToldHeld}
use Rattle.sm_trait_rules.proofs.conflicts.put_told.Given as goal

abbrev pub invariant-loop-pair : goal.invariant-loop-pair
invariant-loop-pair l =
    Puts (ToldOf (λ t. ToldHeld (id_of_number l.graph l.number) l.told.texts t.0) (take l.pair-index l.traits)) l.fn.events.items
    l.events.items
