use Rattle.std.proofs.Common.{drop}
use Rattle.sm_model.specs.steps.Linking.{AddsUpTo}
use Rattle.sm_transform.specs.steps.Steps.{IsStepAlong}
use Rattle.sm_transform.proofs.steps.push_along.Given as goal

abbrev pub invariant-loop-link : goal.invariant-loop-link
invariant-loop-link l =
    AddsUpTo (IsStepAlong l.links) (IsStepAlong (drop l.link-index l.links)) l.initial.steps.items l.steps.items
