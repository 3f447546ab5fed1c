use Rattle.std.proofs.Common.{◌≡◌, ◌∙◌, sym, subst, true}
use Rattle.sm_rules.specs.RuleList.{may_be_suppressed}
use Rattle.sm_load.specs.steps.Suppressing.{MadeWhere}
use Rattle.sm_load.proofs.suppressed.put_suppressor.Goals as goal

pub returns-in_ok-push : goal.returns-in_ok-push
returns-in_ok-push c =
    let may : may_be_suppressed c.args.rule ≡ true = sym c.may_be_suppressed.ensures ∙ c.if-may_be_suppressed.true in
    subst (λ b. MadeWhere b c.args.graph.now c.args.rule c.args.all.now.items c.push.new.self.items) (sym may) (
      c.in_ok-suppressor.suppressor,
      c.in_ok-push.ensures.items,
      c.in_ok-suppressor.ensures.is,
      c.in_ok-suppressor.ensures.rule,
    )
