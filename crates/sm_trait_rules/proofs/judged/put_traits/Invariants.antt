use Rattle.std.proofs.Common.{take}
use Rattle.sm_model.specs.Reaching.{id_of_number}
use Rattle.sm_rules.specs.RuleEvents.{Puts}
use Rattle.sm_trait_rules.specs.steps.Judging.{ToldTrait}
use Rattle.sm_passes.specs.Putting.{ToldOf}
use Rattle.sm_trait_rules.proofs.judged.put_traits.Given as goal

abbrev pub invariant-loop-pair : goal.invariant-loop-pair
invariant-loop-pair g l =
    Puts (ToldOf (ToldTrait (g.J.Judge.rule l.judge) (g.J.Judge.wrong l.judge) (id_of_number l.graph l.number) l.at)
    (take l.pair-index l.traits))
    l.fn.events.items l.events.items
