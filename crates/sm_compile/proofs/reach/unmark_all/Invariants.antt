use Rattle.std.proofs.Common.{ℕ, ◌≡◌, length, take}
use Rattle.std.specs.List.{Contains}
use Rattle.sm_model.specs.Reaching.{IsMarked}
use Rattle.sm_compile.proofs.reach.unmark_all.Given as goal

abbrev pub invariant-loop-number : goal.invariant-loop-number
invariant-loop-number l = record {
  size : length l.marks.items ≡ length l.fn.marks.items;
  left : (k : ℕ) → IsMarked l.marks.items k → IsMarked l.fn.marks.items k × (Contains (take l.number-index l.numbers) k → ⊥);
}
