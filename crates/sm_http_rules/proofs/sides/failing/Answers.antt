use Rattle.std.proofs.Common.{List, Bool, ◌≡◌, ◌<◌, ◌+◌, ◌∙◌, ℕ, length, true, subst, sym, arith}
use Rattle.sm_model.specs.GraphView.{entries_of, maps_of}
use Rattle.sm_model.specs.Reaching.{AreMarks, id_of_number}
use Rattle.sm_select.specs.Images.{AreImage, turned}
use Rattle.sm_model.specs.Relations.{Reaches}
use Rattle.sm_select.proofs.MarkedNumbers.{marks_more, marks_none}
use Rattle.sm_http_rules.specs.Sides.{MayErr}
use Rattle.sm_http_rules.proofs.BoundSides.{may_err_told}
use Rattle.sm_http_rules.proofs.sides.failing.Goals as goal

pub loop-number-init : goal.loop-number-init
loop-number-init c =
    let Holds : ℕ → Type 0 = λ k. MayErr (maps_of c.args.graph.now) (id_of_number c.args.graph.now k) in
    record {
      within = omega arith;
      marks = subst (AreMarks 0 Holds) (sym c.in_ok-marks.ensures.items) (marks_none Holds);
    }

pub loop-number-preserved : goal.loop-number-preserved
loop-number-preserved c =
    let g = c.args.graph.now in
    let at = c.loop-number in
    let Holds : ℕ → Type 0 = λ k. MayErr (maps_of g) (id_of_number g k) in
    let small : at.number < length (entries_of g) = omega (arith, c.loop-number-test.true, c.count-number-end.ensures) in
    let walk = subst (AreImage g c.args.operations.now (turned true (Reaches (maps_of g))))
    (sym {A = List Bool} c.as_slice.ensures.value) c.in_ok-reaching.ensures in
    let told = may_err_told g c.args.operations.now c.as_slice.result.now c.requires.operations walk at.number small in
    record {
      within = omega (arith, c.loop-number-test.true, c.count-number-end.ensures);
      marks = subst (AreMarks (at.number + 1) Holds) (sym {A = List Bool} c.in_ok-push.ensures.items)
          (marks_more Holds at.number at.marks.items c.may_err.result at.invariant.marks
          (λ h. told.0 (sym c.may_err.ensures ∙ h), λ h. c.may_err.ensures ∙ told.1 h));
    }

pub returns : goal.returns
returns c =
    let all : c.loop-number.number ≡ length (entries_of c.args.graph.now) =
    omega (arith, c.loop-number-test.false, c.count-number-end.ensures, c.loop-number.invariant.within) in
    subst (λ n. AreMarks n (λ k. MayErr (maps_of c.args.graph.now) (id_of_number c.args.graph.now k)) c.loop-number.marks.items) all
    c.loop-number.invariant.marks
