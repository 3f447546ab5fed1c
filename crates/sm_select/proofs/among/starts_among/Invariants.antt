use Rattle.std.proofs.Common.{◌≡◌, false, get_or}
use Rattle.sm_model.specs.PreludeShapes.{is_prelude_id}
use Rattle.sm_model.specs.Reaching.{AreMarks, id_of_number}
use Rattle.sm_select.proofs.among.starts_among.Given as goal

abbrev pub invariant-loop-number : goal.invariant-loop-number
invariant-loop-number l =
    AreMarks l.number-index (λ i. is_prelude_id (id_of_number l.graph (get_or l.numbers i 0)) ≡ false) l.marks.items
