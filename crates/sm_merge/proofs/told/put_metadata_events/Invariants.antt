use Rattle.std.proofs.Common.{◌≡◌, ◌++◌, drop}
use Rattle.sm_model.specs.EventView.{AreErrors, events_view}
use Rattle.sm_merge.specs.steps.EventLists.{metadata_events}
use Rattle.sm_merge.proofs.told.put_metadata_events.Given as goal

abbrev pub invariant-loop-row : goal.invariant-loop-row
invariant-loop-row l = record {
  told : events_view l.events.items ++ metadata_events (drop l.row-index l.rows) ≡ events_view l.fn.events.items ++ metadata_events l.rows;
  errors : AreErrors l.fn.events.items → AreErrors l.events.items;
}
