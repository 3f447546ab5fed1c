use Rattle.std.proofs.Common.{◌≡◌, ◌++◌, ◌∷◌, drop, map}
use Rattle.sm_model.specs.Graphs.{member_id}
use Rattle.sm_merge.specs.steps.Firsts.{targets_view}
use Rattle.sm_merge.proofs.events_places.put_places.Given as goal

abbrev pub invariant-loop-member : goal.invariant-loop-member
invariant-loop-member l =
    l.places.items ++ map (λ p. member_id l.shape p.0) (targets_view (drop l.member-index l.members))
    ≡ l.fn.places.items ++ l.shape ∷ map (λ p. member_id l.shape p.0) (targets_view l.members)
