use Rattle.std.proofs.Common.{◌≡◌, ◌≤◌, ℕ, List, drop, length}
use Rattle.std.specs.BTreeMap.{get_by_text}
use Rattle.sm_model.specs.Used.{used_under}
use Rattle.sm_model.proofs.used.first_shapes.Given as goal

abbrev pub decreases-loop-left : goal.decreases-loop-left
decreases-loop-left l = l.left

abbrev pub invariant-loop-left : goal.invariant-loop-left
invariant-loop-left l = record {
  left : l.left ≤ length l.ids;
  told : (name : List ℕ) → get_by_text l.shapes name ≡ used_under name (drop l.left l.ids);
}
