use Rattle.std.proofs.Common.{subst}
use Rattle.sm_model.specs.Reaching.{id_of_number}
use Rattle.sm_rules.specs.RuleEvents.{Puts, rule_event}
use Rattle.sm_rules.specs.declared.rule.Rule.TheVariants.{TraitUnknown}
use Rattle.sm_passes.specs.Putting.{IsWhere}
use Rattle.sm_trait_rules.proofs.unknown.put_if_unknown.Goals as goal

pub returns : goal.returns
returns c =
    subst (λ w. Puts (IsWhere w (rule_event TraitUnknown (id_of_number c.args.graph.now c.args.number) c.args.name.now))
    c.args.events.now.items c.put_if.new.events.items) c.is_unknown-unknown.ensures c.in_ok-put_if.ensures
