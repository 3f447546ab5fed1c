use Rattle.std.proofs.Common.{◌∙◌, sym, subst}
use Rattle.std.proofs.lemmas.List.{take_all}
use Rattle.sm_load.specs.steps.Suppressing.{AreOfRules, HaveOnes}
use Rattle.sm_load.proofs.SuppressorsFound.{all_made, made_next, no_rules, none_made}
use Rattle.sm_load.proofs.suppressed.suppressors_of.Goals as goal

pub loop-rule-init : goal.loop-rule-init
loop-rule-init c = record {
  each = subst (AreOfRules c.args.graph.now) (sym c.new-all.ensures.items) (none_made c.args.graph.now);
  have = no_rules c.new-all.result.items;
}

pub loop-rule-preserved : goal.loop-rule-preserved
loop-rule-preserved c =
    let made = made_next c.all-rules.result.now c.loop-rule.rule-index _ c.loop-rule-test.true c.args.graph.now
    c.loop-rule.all.items c.put_suppressor.new.all.items c.loop-rule.invariant.each c.loop-rule.invariant.have
    c.in_ok-put_suppressor.ensures in
    record { each = made.0; have = made.1 }

pub returns : goal.returns
returns c =
    all_made c.args.graph.now c.loop-rule.all.items c.loop-rule.invariant.each
    (subst (λ rules. HaveOnes rules c.loop-rule.all.items)
    (take_all c.loop-rule.rule-index c.all-rules.result.now c.loop-rule-test.false ∙ c.all-rules.ensures.list) c.loop-rule.invariant.have)
