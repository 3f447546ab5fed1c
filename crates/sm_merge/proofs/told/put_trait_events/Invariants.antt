use Rattle.std.proofs.Common.{◌≡◌, ◌++◌, drop}
use Rattle.sm_model.specs.EventView.{AreErrors, events_view}
use Rattle.sm_merge.specs.steps.EventLists.{trait_events}
use Rattle.sm_merge.proofs.told.put_trait_events.Given as goal

abbrev pub invariant-loop-value : goal.invariant-loop-value
invariant-loop-value l = record {
  told : events_view l.events.items ++ trait_events l.id (drop l.value-index l.values)
      ≡ events_view l.fn.events.items ++ trait_events l.id l.values;
  errors : AreErrors l.fn.events.items → AreErrors l.events.items;
}
