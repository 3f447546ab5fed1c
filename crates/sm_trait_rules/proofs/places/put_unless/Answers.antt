use Rattle.std.proofs.Common.{List, ℕ, not, subst}
use Rattle.sm_model.specs.Reaching.{id_of_number}
use Rattle.sm_rules.specs.RuleEvents.{Puts, rule_event}
use Rattle.sm_rules.specs.declared.rule.Rule.TheVariants.{TraitPlace}
use Rattle.sm_passes.specs.Putting.{IsWhere}
use Rattle.sm_trait_rules.proofs.places.put_unless.Goals as goal

pub returns : goal.returns
returns c =
    let told = rule_event TraitPlace (id_of_number c.args.graph.now c.args.carrier) in
    subst (λ (trait : List ℕ). Puts (IsWhere (not c.args.picked) (told trait)) c.args.events.now.items c.put_if.new.events.items)
    c.id_text.ensures c.in_ok-put_if.ensures
