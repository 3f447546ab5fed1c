use Rattle.std.proofs.Common.{◌⊎◌}
use Rattle.sm_model.specs.Reaching.{AreMarks, IsMarked}
use Rattle.sm_transform.proofs.excluding.either_marks.Given as goal

abbrev pub invariant-loop-number : goal.invariant-loop-number
invariant-loop-number l = AreMarks l.number (λ k. IsMarked l.first k ⊎ IsMarked l.second k) l.marks.items
