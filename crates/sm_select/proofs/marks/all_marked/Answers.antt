use Rattle.std.proofs.Common.{◌+◌, refl, subst, sym, true}
use Rattle.sm_model.specs.Reaching.{AreMarks}
use Rattle.sm_select.proofs.MarkedNumbers.{marks_more, marks_none}
use Rattle.sm_select.proofs.marks.all_marked.Goals as goal

pub loop-init : goal.loop-init
loop-init c = subst (AreMarks 0 (λ k. Unit {0})) (sym c.in_ok-marks.ensures.items) (marks_none (λ k. Unit {0}))

pub loop-preserved : goal.loop-preserved
loop-preserved c =
    let at = c.loop in
    subst (AreMarks (at.counter + 1) (λ k. Unit {0})) (sym c.in_ok-push.ensures.items)
    (marks_more (λ k. Unit {0}) at.counter at.marks.items true at.invariant (λ h. tt, λ h. refl))
