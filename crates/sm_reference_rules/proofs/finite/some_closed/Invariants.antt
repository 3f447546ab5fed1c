use Rattle.std.proofs.Common.{ℕ, take}
use Rattle.std.specs.List.{Contains}
use Rattle.sm_model.specs.Reaching.{IsMarked, id_of_number}
use Rattle.sm_reference_rules.specs.steps.Finding.{Lacks}
use Rattle.sm_reference_rules.proofs.finite.some_closed.Given as goal

abbrev pub invariant-loop-member : goal.invariant-loop-member
invariant-loop-member l =
    (k : ℕ) → Contains (take l.member-index l.members) k → Lacks l.graph (IsMarked l.marks) (id_of_number l.graph k)
