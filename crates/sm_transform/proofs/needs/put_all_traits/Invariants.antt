use Rattle.sm_model.specs.steps.Linking.{Adds}
use Rattle.sm_transform.specs.steps.Steps.{TraitStepsBelow}
use Rattle.sm_transform.proofs.needs.put_all_traits.Given as goal

abbrev pub invariant-loop-number : goal.invariant-loop-number
invariant-loop-number l = Adds (TraitStepsBelow l.graph l.number) l.initial.steps.items l.steps.items
