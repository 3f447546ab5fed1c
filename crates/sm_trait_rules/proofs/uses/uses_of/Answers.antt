use Rattle.std.proofs.Common.{◌≡◌, length, ap, ◌∙◌, arith}
use Rattle.std.proofs.lemmas.List.{length-replicate}
use Rattle.sm_model.specs.GraphView.{entries_of}
use Rattle.sm_trait_rules.proofs.UsesPut.{uses_all, uses_begun, uses_next}
use Rattle.sm_trait_rules.proofs.uses.uses_of.Goals as goal

pub loop-number-init : goal.loop-number-init
loop-number-init c = record {
  within = omega arith;
  whole = ap length c.in_ok-rows.ensures ∙ length-replicate c.count.result _ ∙ c.count.ensures;
  uses = uses_begun c.args.graph.now c.args.firsts.now c.count.result c.in_ok-rows.rows.items c.in_ok-rows.ensures;
}

pub loop-number-preserved : goal.loop-number-preserved
loop-number-preserved c =
    let at = c.loop-number in
    record {
      within = omega (arith, c.loop-number-test.true, c.count-number-end.ensures);
      whole = c.in_ok-put_uses.ensures.count ∙ at.invariant.whole;
      uses = uses_next c.args.graph.now c.args.firsts.now at.number at.rows.items c.put_uses.new.rows.items at.invariant.uses
          c.in_ok-put_uses.ensures.uses;
    }

pub returns : goal.returns
returns c =
    let at = c.loop-number in
    let all : at.number ≡ length (entries_of c.args.graph.now) =
    omega (arith, c.loop-number-test.false, c.count-number-end.ensures, at.invariant.within) in
    uses_all c.args.graph.now c.args.firsts.now at.number at.rows.items all at.invariant.whole at.invariant.uses
