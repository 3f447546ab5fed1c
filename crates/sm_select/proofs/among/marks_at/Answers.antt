use Rattle.std.proofs.Common.{◌≡◌, ◌+◌, ℕ, arith, false, get_or, length, subst, sym}
use Rattle.std.proofs.lemmas.List.Elements.{Contains-get_or}
use Rattle.sm_model.specs.Reaching.{AreMarks, IsMarked}
use Rattle.sm_select.proofs.MarkedNumbers.{marks_more, marks_none}
use Rattle.sm_select.proofs.among.marks_at.Goals as goal

pub bounds-marks-number : goal.bounds-marks-number
bounds-marks-number c =
    let ns = c.args.numbers.now in
    let i = c.loop-number.number-index in
    c.requires (get_or ns i 0) (Contains-get_or ns i 0 c.loop-number-test.true)

pub loop-number-init : goal.loop-number-init
loop-number-init c =
    let Holds : ℕ → Type 0 = λ i. IsMarked c.args.marks.now (get_or c.args.numbers.now i 0) in
    subst (AreMarks 0 Holds) (sym c.in_ok-at.ensures.items) (marks_none Holds)

pub loop-number-preserved : goal.loop-number-preserved
loop-number-preserved c =
    let at = c.loop-number in
    let ms = c.args.marks.now in
    let ns = c.args.numbers.now in
    let i = at.number-index in
    let Holds : ℕ → Type 0 = λ k. IsMarked ms (get_or ns k 0) in
    subst (AreMarks (i + 1) Holds) (sym c.in_ok-push.ensures.items)
    (marks_more Holds i at.at.items (get_or ms (get_or ns i 0) false) at.invariant (λ h. h, λ h. h))

pub returns : goal.returns
returns c =
    let at = c.loop-number in
    let Holds : ℕ → Type 0 = λ i. IsMarked c.args.marks.now (get_or c.args.numbers.now i 0) in
    let all : at.number-index ≡ length c.args.numbers.now = omega (arith, c.loop-number-test.false, at.auto.number-index-end) in
    subst (λ n. AreMarks n Holds at.at.items) all at.invariant
