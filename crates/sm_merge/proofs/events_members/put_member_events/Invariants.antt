use Rattle.std.proofs.Common.{◌≡◌, ◌++◌}
use Rattle.sm_model.specs.EventView.{AreErrors, events_view}
use Rattle.sm_merge.specs.steps.PlaceEvents.{others_below}
use Rattle.sm_merge.proofs.events_members.put_member_events.Given as goal

abbrev pub invariant-loop-number : goal.invariant-loop-number
invariant-loop-number l = record {
  told : events_view l.events.items ≡ events_view l.fn.events.items ++ others_below l.rows l.mixed l.members l.number;
  errors : AreErrors l.fn.events.items → AreErrors l.events.items;
}
