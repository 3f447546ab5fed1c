use Rattle.std.proofs.Common.{◌≡◌, ◌+◌, ℕ, false, subst, sym}
use Rattle.sm_model.specs.PreludeShapes.{is_prelude_id}
use Rattle.sm_model.specs.Reaching.{AreMarks, id_of_number}
use Rattle.sm_select.proofs.MarkedNumbers.{marks_more, marks_none, not_told}
use Rattle.sm_select.proofs.selecting.starts_of.Goals as goal

pub loop-number-init : goal.loop-number-init
loop-number-init c =
    let Holds : ℕ → Type 0 = λ k. is_prelude_id (id_of_number c.args.graph.now k) ≡ false in
    subst (AreMarks 0 Holds) (sym c.in_ok-marks.ensures.items) (marks_none Holds)

pub loop-number-preserved : goal.loop-number-preserved
loop-number-preserved c =
    let at = c.loop-number in
    let Holds : ℕ → Type 0 = λ k. is_prelude_id (id_of_number c.args.graph.now k) ≡ false in
    subst (AreMarks (at.number + 1) Holds) (sym c.in_ok-push.ensures.items)
    (marks_more Holds at.number at.marks.items c.is_start.result at.invariant
    (not_told (is_prelude_id (id_of_number c.args.graph.now at.number)) c.is_start.result c.is_start.ensures))
