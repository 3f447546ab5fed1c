use Rattle.std.proofs.Common.{◌≡◌, ◌⊎◌, ◌<◌, ◌↔◌, ℕ, length}
use Rattle.sm_model.specs.Reaching.{IsMarked}
use Rattle.sm_select.proofs.marks.mark_too.Given as goal

abbrev pub invariant-loop-number : goal.invariant-loop-number
invariant-loop-number l = record {
  count : length l.marks.items ≡ length l.initial.marks.items;
  marked : (k : ℕ) → IsMarked l.marks.items k ↔ (IsMarked l.initial.marks.items k ⊎ ((k < l.number) × IsMarked l.more k));
}
