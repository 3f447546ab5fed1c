use Rattle.std.proofs.Common.{◌≡◌, ◌≤◌, false, get_or, length}
use Rattle.sm_model.specs.Reaching.{AreMarks}
use Rattle.sm_service.proofs.known.neither_marked.Given as goal

abbrev pub invariant-loop-number : goal.invariant-loop-number
invariant-loop-number l = record {
  within : l.number ≤ length l.some;
  marks : AreMarks l.number (λ k. (get_or l.some k false ≡ false) × (get_or l.others k false ≡ false)) l.marks.items;
}
