use Rattle.std.proofs.Common.{◌≡◌, ◌++◌, drop}
use Rattle.sm_model.specs.EventView.{AreErrors, events_view}
use Rattle.sm_merge.specs.steps.PlaceEvents.{first_in, others_among}
use Rattle.sm_merge.proofs.events_members.put_own_others.Given as goal

abbrev pub invariant-loop-name : goal.invariant-loop-name
invariant-loop-name l = record {
  told : events_view l.events.items ++ others_among l.shape (first_in l.firsts) (drop l.name-index l.members)
      ≡ events_view l.fn.events.items ++ others_among l.shape (first_in l.firsts) l.members;
  errors : AreErrors l.fn.events.items → AreErrors l.events.items;
}
