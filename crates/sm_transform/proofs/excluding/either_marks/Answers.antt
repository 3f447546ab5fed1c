use Rattle.std.proofs.Common.{◌⊎◌, ◌+◌, ℕ, subst, sym}
use Rattle.sm_model.specs.Reaching.{AreMarks, IsMarked}
use Rattle.sm_select.proofs.MarkedNumbers.{marks_more, marks_none}
use Rattle.sm_transform.proofs.excluding.either_marks.Goals as goal

pub loop-number-init : goal.loop-number-init
loop-number-init c =
    let Holds : ℕ → Type 0 = λ k. IsMarked c.args.first.now k ⊎ IsMarked c.args.second.now k in
    subst (AreMarks 0 Holds) (sym c.in_ok-marks.ensures.items) (marks_none Holds)

pub loop-number-preserved : goal.loop-number-preserved
loop-number-preserved c =
    let at = c.loop-number in
    let Holds : ℕ → Type 0 = λ k. IsMarked c.args.first.now k ⊎ IsMarked c.args.second.now k in
    subst (AreMarks (at.number + 1) Holds) (sym c.in_ok-push.ensures.items)
    (marks_more Holds at.number at.marks.items c.is_either.result at.invariant c.is_either.ensures)
