use Rattle.std.proofs.Common.{◌≡◌, ◌++◌, drop}
use Rattle.sm_model.specs.EventView.{AreErrors, events_view}
use Rattle.sm_merge.specs.steps.Filling.{all_targets}
use Rattle.sm_merge.specs.steps.PlaceEvents.{first_in, others_among}
use Rattle.sm_merge.proofs.events_members.put_others.Given as goal

abbrev pub invariant-loop-mixin : goal.invariant-loop-mixin
invariant-loop-mixin l = record {
  told : events_view l.events.items
      ++ others_among l.row.id (first_in l.firsts) (all_targets l.all (drop l.mixin-index l.mixed) l.row.members.items)
      ≡ events_view l.fn.events.items ++ others_among l.row.id (first_in l.firsts) (all_targets l.all l.mixed l.row.members.items);
  errors : AreErrors l.fn.events.items → AreErrors l.events.items;
}
