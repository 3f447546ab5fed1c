use Rattle.std.proofs.Common.{◌≡◌, ◌⊎◌, ◌+◌, ℕ, true, subst, sym}
use Rattle.sm_model.specs.Reaching.{AreMarks, IsMarked, id_of_number}
use Rattle.sm_select.proofs.MarkedNumbers.{marks_more, marks_none}
use Rattle.sm_transform.specs.Namespaces.{is_of_api}
use Rattle.sm_transform.proofs.including.with_api.Goals as goal

pub loop-number-init : goal.loop-number-init
loop-number-init c =
    let Holds : ℕ → Type 0 =
    λ k. (IsMarked c.args.picked.now k ⊎ IsMarked c.args.led.now k) ⊎ (is_of_api (id_of_number c.args.graph.now k) ≡ true) in
    subst (AreMarks 0 Holds) (sym c.in_ok-marks.ensures.items) (marks_none Holds)

pub loop-number-preserved : goal.loop-number-preserved
loop-number-preserved c =
    let at = c.loop-number in
    let Holds : ℕ → Type 0 =
    λ k. (IsMarked c.args.picked.now k ⊎ IsMarked c.args.led.now k) ⊎ (is_of_api (id_of_number c.args.graph.now k) ≡ true) in
    subst (AreMarks (at.number + 1) Holds) (sym c.in_ok-push.ensures.items)
    (marks_more Holds at.number at.marks.items c.stays_at.result at.invariant c.stays_at.ensures)
