use Rattle.std.proofs.Common.{◌≡◌}
use Rattle.sm_merge.specs.steps.PlaceEvents.{places_below}
use Rattle.sm_merge.proofs.events_places.all_places.Given as goal

abbrev pub invariant-loop-number : goal.invariant-loop-number
invariant-loop-number l = l.places.items ≡ places_below l.rows l.members l.number
