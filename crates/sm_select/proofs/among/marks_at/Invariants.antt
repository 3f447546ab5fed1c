use Rattle.std.proofs.Common.{get_or}
use Rattle.sm_model.specs.Reaching.{AreMarks, IsMarked}
use Rattle.sm_select.proofs.among.marks_at.Given as goal

abbrev pub invariant-loop-number : goal.invariant-loop-number
invariant-loop-number l = AreMarks l.number-index (λ i. IsMarked l.marks (get_or l.numbers i 0)) l.at.items
