use Rattle.std.proofs.Common.{◌≡◌, ◌+◌, drop}
use Rattle.sm_service.specs.steps.KeptPlaces.{below_place}
use Rattle.sm_service.proofs.errors.below_place.Given as goal

abbrev pub invariant-loop-other : goal.invariant-loop-other
invariant-loop-other l = record {
  counted : l.count + below_place (drop l.other-index l.places) l.place ≡ below_place l.places l.place;
  small : l.count ≡ l.other-index;
}
