use Rattle.std.proofs.Common.{◌≡◌, subst}
use Rattle.sm_model.specs.Reaching.{id_of_number}
use Rattle.sm_rules.specs.RuleEvents.{Puts, rule_event}
use Rattle.sm_rules.specs.declared.rule.Rule.TheVariants.{ServiceNames}
use Rattle.sm_name_rules.proofs.names.AgainOfFirst.put_of.Goals as goal

pub returns : goal.returns
returns c =
    subst (λ d. Puts (λ e. e ≡ rule_event ServiceNames (id_of_number c.args.graph.now c.args.self.now.service) d) c.args.events.now.items
    c.put_event.new.events.items) c.id_text.ensures c.in_ok-put_event.ensures
