use Rattle.std.proofs.Common.{◌≡◌, ◌++◌, drop}
use Rattle.sm_model.specs.EventView.{AreErrors, events_view}
use Rattle.sm_merge.specs.steps.PlaceEvents.{place_conflicts}
use Rattle.sm_merge.proofs.events_places.put_place_conflicts.Given as goal

abbrev pub invariant-loop-place : goal.invariant-loop-place
invariant-loop-place l = record {
  told : events_view l.events.items ++ place_conflicts l.traits (drop l.place-index l.places)
      ≡ events_view l.fn.events.items ++ place_conflicts l.traits l.places;
  errors : AreErrors l.fn.events.items → AreErrors l.events.items;
}
