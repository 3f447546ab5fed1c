use Rattle.std.proofs.Common.{◌≡◌, ◌++◌}
use Rattle.std.specs.Vec.Iter.{into_iter_items}
use Rattle.sm_model.specs.GivenView.{members_given_view}
use Rattle.sm_merge.specs.Places.{names_and_targets}
use Rattle.sm_merge.specs.steps.Placed.{placed_members, placed_view}
use Rattle.sm_merge.proofs.parts.put_members.Given as goal

abbrev pub invariant-loop-member : goal.invariant-loop-member
invariant-loop-member l = record {
  bare : l.bare.items ++ names_and_targets (members_given_view (into_iter_items l.member-iterator))
      ≡ names_and_targets (members_given_view (into_iter_items l.initial.member-iterator));
  traits : placed_view l.traits.items ++ placed_members l.shape (members_given_view (into_iter_items l.member-iterator))
      ≡ placed_view l.initial.traits.items ++ placed_members l.shape (members_given_view (into_iter_items l.initial.member-iterator));
}
