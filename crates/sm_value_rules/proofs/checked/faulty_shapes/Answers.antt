use Rattle.std.proofs.Common.{◌≡◌, ◌<◌, ◌+◌, ℕ, false, get_or, length, subst, sym, ap, ◌∙◌, arith}
use Rattle.sm_model.specs.GraphView.{entries_of}
use Rattle.sm_value_rules.specs.steps.Checking.{TellsFault}
use Rattle.sm_value_rules.proofs.CheckedMarks.{faults_marked}
use Rattle.sm_trait_rules.proofs.FirstTexts.{each_pushed, long_pushed}
use Rattle.sm_value_rules.proofs.checked.faulty_shapes.Goals as goal

pub loop-number-preserved : goal.loop-number-preserved
loop-number-preserved c =
    let at = c.loop-number in
    let g = c.args.graph.now in
    record {
      within = omega (arith, c.loop-number-test.true, c.count-number-end.ensures);
      long = ap length c.in_ok-push.ensures.items ∙ long_pushed at.marks.items at.number c.in_ok-faulty.faulty at.invariant.long;
      each = subst (λ ms. (k : ℕ) → k < at.number + 1 → TellsFault g k (get_or ms k false)) (sym c.in_ok-push.ensures.items)
          (each_pushed (TellsFault g) false at.marks.items at.number c.in_ok-faulty.faulty at.invariant.long at.invariant.each
          c.in_ok-faulty.ensures);
    }

pub returns : goal.returns
returns c =
    let at = c.loop-number in
    let all : at.number ≡ length (entries_of c.args.graph.now) =
    omega (arith, c.loop-number-test.false, c.count-number-end.ensures, at.invariant.within) in
    faults_marked c.args.graph.now at.marks.items at.number all at.invariant.long at.invariant.each
