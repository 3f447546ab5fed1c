use Rattle.std.proofs.Common.{ap, subst, ◌∙◌}
use Rattle.sm_model.specs.GraphView.{maps_of}
use Rattle.sm_model.specs.Reaching.{id_of_number}
use Rattle.sm_rules.specs.RuleEvents.{Puts, rule_event}
use Rattle.sm_rules.specs.declared.rule.Rule.TheVariants.{TraitSingle}
use Rattle.sm_trait_rules.specs.steps.Twice.{carried_twice}
use Rattle.sm_passes.specs.Putting.{IsWhere}
use Rattle.sm_trait_rules.proofs.single.put_if_twice.Goals as goal

pub returns : goal.returns
returns c =
    subst (λ w. Puts (IsWhere w (rule_event TraitSingle (id_of_number c.args.graph.now c.args.number) c.args.name.now))
    c.args.events.now.items c.put_if.new.events.items)
    (c.is_carried_twice-twice.ensures ∙ ap (carried_twice (maps_of c.args.graph.now) c.args.name.now) c.members_of.ensures.ids)
    c.in_ok-put_if.ensures
