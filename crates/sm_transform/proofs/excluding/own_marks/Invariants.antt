use Rattle.std.proofs.Common.{◌≡◌, false}
use Rattle.sm_model.specs.Reaching.{AreMarks, IsMarked, id_of_number}
use Rattle.sm_transform.specs.Namespaces.{is_of_api}
use Rattle.sm_transform.proofs.excluding.own_marks.Given as goal

abbrev pub invariant-loop-number : goal.invariant-loop-number
invariant-loop-number l = AreMarks l.number (λ k. IsMarked l.picked k × (is_of_api (id_of_number l.graph k) ≡ false)) l.marks.items
