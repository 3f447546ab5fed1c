use Rattle.std.proofs.Common.{◌≡◌, ◌+◌, ℕ, length, subst, sym, arith}
use Rattle.sm_model.specs.GraphView.{entries_of, maps_of}
use Rattle.sm_model.specs.Reaching.{AreMarks, id_of_number}
use Rattle.sm_select.proofs.MarkedNumbers.{marks_more, marks_none}
use Rattle.sm_compile.specs.Served.{IsUnserved}
use Rattle.sm_service.proofs.known.unserved_marks.Goals as goal

pub loop-number-init : goal.loop-number-init
loop-number-init c =
    let Holds : ℕ → Type 0 = λ k. IsUnserved (maps_of c.args.graph.now) (id_of_number c.args.graph.now k) in
    record {
      within = omega arith;
      marks = subst (AreMarks 0 Holds) (sym c.in_ok-marks.ensures.items) (marks_none Holds);
    }

pub loop-number-preserved : goal.loop-number-preserved
loop-number-preserved c =
    let at = c.loop-number in
    let Holds : ℕ → Type 0 = λ k. IsUnserved (maps_of c.args.graph.now) (id_of_number c.args.graph.now k) in
    record {
      within = omega (arith, c.loop-number-test.true, c.count-number-end.ensures);
      marks = subst (AreMarks (at.number + 1) Holds) (sym c.in_ok-push.ensures.items)
          (marks_more Holds at.number at.marks.items c.is_unserved.result at.invariant.marks c.is_unserved.ensures);
    }

pub returns : goal.returns
returns c =
    let all : c.loop-number.number ≡ length (entries_of c.args.graph.now) =
    omega (arith, c.loop-number-test.false, c.count-number-end.ensures, c.loop-number.invariant.within) in
    subst (λ n. AreMarks n (λ k. IsUnserved (maps_of c.args.graph.now) (id_of_number c.args.graph.now k)) c.loop-number.marks.items) all
    c.loop-number.invariant.marks
