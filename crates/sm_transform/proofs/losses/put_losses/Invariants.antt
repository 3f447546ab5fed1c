use Rattle.std.proofs.Common.{drop}
use Rattle.sm_model.specs.steps.Linking.{AddsUpTo}
use Rattle.sm_transform.specs.steps.Steps.{Losses}
use Rattle.sm_transform.proofs.losses.put_losses.Given as goal

abbrev pub invariant-loop-link : goal.invariant-loop-link
invariant-loop-link l =
    AddsUpTo (Losses l.graph l.links) (Losses l.graph (drop l.link-index l.links)) l.initial.steps.items l.steps.items
