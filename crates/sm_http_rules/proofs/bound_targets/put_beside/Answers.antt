use Rattle.std.proofs.Common.{subst}
use Rattle.sm_model.specs.Reaching.{id_of_number}
use Rattle.sm_compile.specs.TraitIds.{http_payload_id}
use Rattle.sm_rules.specs.RuleEvents.{Puts, rule_event}
use Rattle.sm_rules.specs.declared.rule.Rule.TheVariants.{HttpTarget}
use Rattle.sm_passes.specs.Putting.{IsWhere}
use Rattle.sm_http_rules.proofs.bound_targets.put_beside.Goals as goal

pub returns : goal.returns
returns c =
    let id = id_of_number c.args.graph.now c.args.member in
    subst (λ w. Puts (IsWhere w (rule_event HttpTarget id http_payload_id)) c.args.events.now.items
    c.put_if.new.events.items) c.is_beside-beside.ensures c.in_ok-put_if.ensures
