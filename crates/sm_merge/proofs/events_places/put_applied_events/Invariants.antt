use Rattle.std.proofs.Common.{◌≡◌, ◌++◌, drop}
use Rattle.sm_model.specs.EventView.{AreErrors, events_view}
use Rattle.sm_merge.specs.steps.Known.{has_text}
use Rattle.sm_merge.specs.steps.PlaceEvents.{applied_events}
use Rattle.sm_merge.proofs.events_places.put_applied_events.Given as goal

abbrev pub invariant-loop-id : goal.invariant-loop-id
invariant-loop-id l = record {
  told : events_view l.events.items ++ applied_events (has_text l.there) (drop l.id-index l.applied)
      ≡ events_view l.fn.events.items ++ applied_events (has_text l.there) l.applied;
  errors : AreErrors l.fn.events.items → AreErrors l.events.items;
}
