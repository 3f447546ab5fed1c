use Rattle.std.proofs.Common.{drop}
use Rattle.sm_tree.specs.View.{members_view}
use Rattle.sm_model.specs.steps.Linking.{AddsUpTo}
use Rattle.sm_transform.specs.steps.Steps.{TraitSteps}
use Rattle.sm_transform.proofs.needs.put_traits.Given as goal

abbrev pub invariant-loop-pair : goal.invariant-loop-pair
invariant-loop-pair l =
    AddsUpTo (TraitSteps l.graph l.number (members_view l.traits)) (TraitSteps l.graph l.number (members_view (drop l.pair-index l.traits)))
    l.initial.steps.items l.steps.items
