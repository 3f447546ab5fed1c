use Rattle.sm_rules.specs.Traits.{CarriesTwice}
use Rattle.sm_model.specs.GraphView.{maps_of}
use Rattle.sm_rules.specs.RuleEvents.{Puts}
use Rattle.sm_rules.specs.declared.rule.Rule.TheVariants.{TraitSingle}
use Rattle.sm_passes.specs.Putting.{Below}
use Rattle.sm_passes.proofs.Numbered.{at_number}
use Rattle.sm_trait_rules.proofs.single.put_single.Given as goal

abbrev pub invariant-loop-number : goal.invariant-loop-number
invariant-loop-number l =
    Puts (Below (at_number l.graph TraitSingle (CarriesTwice (maps_of l.graph))) l.number) l.fn.events.items l.events.items
