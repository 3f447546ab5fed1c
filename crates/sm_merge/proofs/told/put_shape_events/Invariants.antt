use Rattle.std.proofs.Common.{◌≡◌, ◌++◌, drop, map}
use Rattle.sm_model.specs.EventView.{AreErrors, events_view}
use Rattle.sm_merge.specs.steps.EventLists.{shape_event}
use Rattle.sm_merge.proofs.told.put_shape_events.Given as goal

abbrev pub invariant-loop-id : goal.invariant-loop-id
invariant-loop-id l = record {
  told : events_view l.events.items ++ map shape_event (drop l.id-index l.wrong)
      ≡ events_view l.fn.events.items ++ map shape_event l.wrong;
  errors : AreErrors l.fn.events.items → AreErrors l.events.items;
}
