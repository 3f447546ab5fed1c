use Rattle.std.proofs.Common.{◌≡◌, ◌++◌, drop}
use Rattle.sm_model.specs.EventView.{AreErrors, events_view}
use Rattle.sm_merge.specs.steps.Firsts.{targets_view}
use Rattle.sm_merge.specs.steps.PlaceEvents.{first_in, others_among}
use Rattle.sm_merge.proofs.events_members.put_mixed_others.Given as goal

abbrev pub invariant-loop-member : goal.invariant-loop-member
invariant-loop-member l = record {
  told : events_view l.events.items ++ others_among l.shape (first_in l.firsts) (targets_view (drop l.member-index l.members))
      ≡ events_view l.fn.events.items ++ others_among l.shape (first_in l.firsts) (targets_view l.members);
  errors : AreErrors l.fn.events.items → AreErrors l.events.items;
}
