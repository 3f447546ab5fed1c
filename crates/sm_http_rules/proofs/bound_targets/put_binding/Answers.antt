use Rattle.std.proofs.Common.{List, ℕ, subst}
use Rattle.sm_model.specs.Reaching.{id_of_number}
use Rattle.sm_rules.specs.Bindings.{binding_id}
use Rattle.sm_rules.specs.RuleEvents.{Puts, rule_event}
use Rattle.sm_rules.specs.declared.rule.Rule.TheVariants.{HttpTarget}
use Rattle.sm_http_traits.specs.Bindings.{binding_said}
use Rattle.sm_passes.specs.Putting.{IsWhere}
use Rattle.sm_http_rules.proofs.bound_targets.put_binding.Goals as goal

pub returns : goal.returns
returns c =
    let id = id_of_number c.args.graph.now c.args.member in
    subst (λ w. Puts (IsWhere w (rule_event HttpTarget id (binding_id (binding_said c.args.binding)))) c.args.events.now.items
    c.put_if.new.events.items) c.is_wrong_target-wrong.ensures
    (subst (λ (d : List ℕ). Puts (IsWhere c.is_wrong_target-wrong.result (rule_event HttpTarget id d)) c.args.events.now.items
    c.put_if.new.events.items) c.binding_name.ensures c.in_ok-put_if.ensures)
