use Rattle.std.proofs.Common.{◌≡◌, ◌+◌, ℕ, false, get_or, length, subst, sym, arith}
use Rattle.sm_model.specs.Reaching.{AreMarks}
use Rattle.sm_select.proofs.MarkedNumbers.{marks_more, marks_none}
use Rattle.sm_service.proofs.known.neither_marked.Goals as goal

pub loop-number-init : goal.loop-number-init
loop-number-init c =
    let Holds : ℕ → Type 0 = λ k. (get_or c.args.some.now k false ≡ false) × (get_or c.args.others.now k false ≡ false) in
    record {
      within = omega arith;
      marks = subst (AreMarks 0 Holds) (sym c.in_ok-marks.ensures.items) (marks_none Holds);
    }

pub loop-number-preserved : goal.loop-number-preserved
loop-number-preserved c =
    let at = c.loop-number in
    let Holds : ℕ → Type 0 = λ k. (get_or c.args.some.now k false ≡ false) × (get_or c.args.others.now k false ≡ false) in
    record {
      within = omega (arith, c.loop-number-test.true);
      marks = subst (AreMarks (at.number + 1) Holds) (sym c.in_ok-push.ensures.items)
          (marks_more Holds at.number at.marks.items c.is_neither.result at.invariant.marks c.is_neither.ensures);
    }

pub returns : goal.returns
returns c =
    let all : c.loop-number.number ≡ length c.args.some.now =
    omega (arith, c.loop-number-test.false, c.loop-number.invariant.within) in
    subst (λ n. AreMarks n (λ k. (get_or c.args.some.now k false ≡ false) × (get_or c.args.others.now k false ≡ false)) c.loop-number.marks.items)
    all c.loop-number.invariant.marks
