use Rattle.std.proofs.Common.{◌≡◌, ◌≤◌, ◌++◌, ℕ, List, drop, length}
use Rattle.sm_merge.specs.steps.Filling.{kept_by, last_first}
use Rattle.sm_merge.specs.steps.MemberLists.{rows_under}
use Rattle.sm_merge.proofs.effective_members.put_mixed.Given as goal

abbrev pub decreases-loop-left : goal.decreases-loop-left
decreases-loop-left l = l.left

abbrev pub invariant-loop-left : goal.invariant-loop-left
invariant-loop-left l = record {
  left : l.left ≤ length l.mixed;
  rows : (name : List ℕ) → rows_under name l.lists.items
      ≡ rows_under name l.fn.lists.items ++ last_first (kept_by name l.all) (drop l.left l.mixed);
}
