use Rattle.std.proofs.Common.{◌≡◌, ◌+◌, List, get_or, length, subst, sym, ap, ◌∙◌, arith}
use Rattle.sm_trait_rules.specs.declared.conflicts.Excluded.{Excluded}
use Rattle.sm_trait_rules.specs.steps.Conflicting.{IsExcludedAt}
use Rattle.sm_trait_rules.proofs.FirstTexts.{each_pushed, long_pushed}
use Rattle.sm_trait_rules.proofs.conflicts.excluded_sets.Goals as goal

pub loop-number-preserved : goal.loop-number-preserved
loop-number-preserved c =
    let at = c.loop-number in
    let g = c.args.graph.now in
    let grown : length c.push.new.self.items ≡ at.number + 1 =
    ap length c.in_ok-push.ensures.items ∙ long_pushed at.sets.items at.number c.in_ok-excluded.excluded at.invariant.whole in
    record {
      within = omega (arith, c.loop-number-test.true, c.count-number-end.ensures);
      whole = grown;
      each = λ k other small. subst (λ (ss : List Excluded). IsExcludedAt g k (get_or ss k other)) (sym c.in_ok-push.ensures.items)
          (each_pushed (IsExcludedAt g) other at.sets.items at.number c.in_ok-excluded.excluded at.invariant.whole
          (λ j less. at.invariant.each j other (omega (arith, less, at.invariant.whole))) c.in_ok-excluded.ensures k
          (omega (arith, small, grown)));
    }
