use Rattle.std.proofs.Common.{◌≡◌, ◌<◌, ◌+◌, ℕ, List, None, get_or, length, rules, subst, sym, ap, ◌∙◌, arith}
use Rattle.std.proofs.lemmas.Option.{none-some}
use Rattle.sm_model.specs.GraphView.{entries_of}
use Rattle.sm_passes.specs.Firsts.{number_in}
use Rattle.sm_trait_rules.specs.steps.Placing.{SharesText}
use Rattle.sm_trait_rules.proofs.FirstTexts.{each_pushed, long_pushed}
use Rattle.sm_trait_rules.proofs.first_texts.first_texts.Goals as goal

pub loop-number-init : goal.loop-number-init
loop-number-init c = record {
  within = omega arith;
  seen = λ text first is. absurd (none-some first (sym (none text) ∙ is));
  whole = ap length c.in_ok-firsts.ensures.items;
  each = λ k less. absurd (omega (arith, less));
}
  where
    none : (text : List ℕ) → number_in c.new-seen.result text ≡ None
    none text = search rules

pub loop-number-preserved : goal.loop-number-preserved
loop-number-preserved c =
    let at = c.loop-number in
    let Is = SharesText c.args.graph.now in
    record {
      within = omega (arith, c.loop-number-test.true, c.count-number-end.ensures);
      seen = c.in_ok-first.ensures.seen;
      whole = ap length c.in_ok-push.ensures.items ∙ long_pushed at.firsts.items at.number c.in_ok-first.first at.invariant.whole;
      each = subst (λ fs. (k : ℕ) → k < at.number + 1 → Is k (get_or fs k None)) (sym c.in_ok-push.ensures.items)
          (each_pushed Is None at.firsts.items at.number c.in_ok-first.first at.invariant.whole at.invariant.each
          c.in_ok-first.ensures.shares);
    }

pub returns : goal.returns
returns c =
    let at = c.loop-number in
    let all : at.number ≡ length (entries_of c.args.graph.now) =
    omega (arith, c.loop-number-test.false, c.count-number-end.ensures, at.invariant.within) in
    record {
      whole = at.invariant.whole ∙ all;
      each = λ k small. at.invariant.each k (subst (λ n. k < n) (sym all) small);
    }
