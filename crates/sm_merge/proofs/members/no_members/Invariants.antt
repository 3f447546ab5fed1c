use Rattle.std.proofs.Common.{◌≡◌, length}
use Rattle.sm_merge.specs.steps.Made.{HaveManyMembers}
use Rattle.sm_merge.proofs.members.no_members.Given as goal

abbrev pub invariant-loop : goal.invariant-loop
invariant-loop l = record {
  size : length l.all.items ≡ l.counter;
  short : HaveManyMembers l.all.items → ⊥;
}
