use Rattle.std.proofs.Common.{◌≡◌, length}
use Rattle.sm_merge.specs.steps.Filling.{HasMixedMembers, IsFilled}
use Rattle.sm_merge.specs.steps.Made.{HaveManyMembers}
use Rattle.sm_merge.specs.steps.MixedIn.{IsMixedOrder}
use Rattle.sm_merge.proofs.members.all_members.Given as goal

abbrev pub invariant-loop-number : goal.invariant-loop-number
invariant-loop-number l = record {
  size : length l.all.items ≡ length l.rows;
  filled : IsMixedOrder l.order l.mixed → IsFilled (HasMixedMembers l.rows l.mixed) l.order l.number-index l.all.items;
  short : HaveManyMembers l.all.items → ⊥;
}
