use Rattle.std.proofs.Common.{◌≡◌, length, ap, ◌∙◌, arith}
use Rattle.std.proofs.lemmas.List.{length-replicate}
use Rattle.sm_model.specs.GraphView.{entries_of}
use Rattle.sm_value_rules.proofs.UsedTraits.{used_all, used_begun, used_next}
use Rattle.sm_value_rules.proofs.used.used_traits.Goals as goal

pub loop-number-init : goal.loop-number-init
loop-number-init c = record {
  within = omega arith;
  whole = ap length c.in_ok-marks.ensures ∙ length-replicate c.count.result _ ∙ c.count.ensures;
  used = used_begun c.args.graph.now c.count.result c.in_ok-marks.marks.items c.in_ok-marks.ensures;
}

pub loop-number-preserved : goal.loop-number-preserved
loop-number-preserved c =
    let at = c.loop-number in
    record {
      within = omega (arith, c.loop-number-test.true, c.count-number-end.ensures);
      whole = c.mark_traits.ensures.count ∙ at.invariant.whole;
      used = used_next c.args.graph.now at.number at.marks.items c.mark_traits.new.marks.items c.traits.result.now c.traits.ensures
          c.mark_traits.ensures.named at.invariant.used;
    }

pub returns : goal.returns
returns c =
    let at = c.loop-number in
    let all : at.number ≡ length (entries_of c.args.graph.now) =
    omega (arith, c.loop-number-test.false, c.count-number-end.ensures, at.invariant.within) in
    used_all c.args.graph.now at.number at.marks.items all at.invariant.whole at.invariant.used
