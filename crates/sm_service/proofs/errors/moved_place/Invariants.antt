use Rattle.std.proofs.Common.{◌≡◌, ◌+◌, drop}
use Rattle.sm_service.specs.steps.KeptPlaces.{moved_place}
use Rattle.sm_service.proofs.errors.moved_place.Given as goal

abbrev pub invariant-loop-place : goal.invariant-loop-place
invariant-loop-place l = record {
  moved : moved_place (drop l.place-index l.places) l.at ≡ moved_place l.places l.kept;
  far : l.at ≡ l.kept + l.place-index;
}
