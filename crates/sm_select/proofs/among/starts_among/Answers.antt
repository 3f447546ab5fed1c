use Rattle.std.proofs.Common.{◌≡◌, ◌+◌, ℕ, arith, false, get_or, length, subst, sym}
use Rattle.std.proofs.lemmas.List.Elements.{Contains-get_or}
use Rattle.sm_model.specs.PreludeShapes.{is_prelude_id}
use Rattle.sm_model.specs.Reaching.{AreMarks, id_of_number}
use Rattle.sm_select.proofs.MarkedNumbers.{marks_more, marks_none, not_told}
use Rattle.sm_select.proofs.among.starts_among.Goals as goal

pub is_start-requires : goal.is_start-requires
is_start-requires c =
    let ns = c.args.numbers.now in
    let i = c.loop-number.number-index in
    c.requires (get_or ns i 0) (Contains-get_or ns i 0 c.loop-number-test.true)

pub loop-number-init : goal.loop-number-init
loop-number-init c =
    let Holds : ℕ → Type 0 = λ i. is_prelude_id (id_of_number c.args.graph.now (get_or c.args.numbers.now i 0)) ≡ false in
    subst (AreMarks 0 Holds) (sym c.in_ok-marks.ensures.items) (marks_none Holds)

pub loop-number-preserved : goal.loop-number-preserved
loop-number-preserved c =
    let at = c.loop-number in
    let g = c.args.graph.now in
    let ns = c.args.numbers.now in
    let i = at.number-index in
    let Holds : ℕ → Type 0 = λ k. is_prelude_id (id_of_number g (get_or ns k 0)) ≡ false in
    subst (AreMarks (i + 1) Holds) (sym c.in_ok-push.ensures.items)
    (marks_more Holds i at.marks.items c.is_start.result at.invariant
    (not_told (is_prelude_id (id_of_number g (get_or ns i 0))) c.is_start.result c.is_start.ensures))

pub returns : goal.returns
returns c =
    let at = c.loop-number in
    let Holds : ℕ → Type 0 = λ i. is_prelude_id (id_of_number c.args.graph.now (get_or c.args.numbers.now i 0)) ≡ false in
    let all : at.number-index ≡ length c.args.numbers.now = omega (arith, c.loop-number-test.false, at.auto.number-index-end) in
    subst (λ n. AreMarks n Holds at.marks.items) all at.invariant
