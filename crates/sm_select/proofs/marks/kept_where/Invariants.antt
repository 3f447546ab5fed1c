use Rattle.std.proofs.Common.{◌≡◌, false, get_or}
use Rattle.sm_model.specs.Reaching.{AreMarks, IsMarked}
use Rattle.sm_select.proofs.marks.kept_where.Given as goal

abbrev pub invariant-loop-number : goal.invariant-loop-number
invariant-loop-number l = AreMarks l.number (λ k. IsMarked l.starts k × (get_or l.marks k false ≡ l.marked)) l.kept.items
