use Rattle.std.proofs.Common.{◌≡◌, false}
use Rattle.sm_model.specs.PreludeShapes.{is_prelude_id}
use Rattle.sm_model.specs.Reaching.{AreMarks, id_of_number}
use Rattle.sm_select.proofs.selecting.starts_of.Given as goal

abbrev pub invariant-loop-number : goal.invariant-loop-number
invariant-loop-number l = AreMarks l.number (λ k. is_prelude_id (id_of_number l.graph k) ≡ false) l.marks.items
