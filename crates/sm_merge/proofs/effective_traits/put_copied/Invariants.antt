use Rattle.std.proofs.Common.{◌≡◌, ◌≤◌, ◌++◌, drop, length}
use Rattle.sm_merge.specs.steps.Filling.{copied_at, folded_rows, last_first}
use Rattle.sm_merge.proofs.effective_traits.put_copied.Given as goal

abbrev pub decreases-loop-left : goal.decreases-loop-left
decreases-loop-left l = l.left

abbrev pub invariant-loop-left : goal.invariant-loop-left
invariant-loop-left l = record {
  left : l.left ≤ length l.mixed;
  rows : folded_rows l.rows.items ≡ folded_rows l.fn.rows.items ++ last_first (copied_at l.all) (drop l.left l.mixed);
}
