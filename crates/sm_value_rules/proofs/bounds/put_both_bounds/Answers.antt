use Rattle.std.proofs.Common.{ap, subst, ◌∙◌}
use Rattle.std.specs.Prelude.{codes}
use Rattle.sm_model.specs.GraphView.{maps_of}
use Rattle.sm_model.specs.Reaching.{id_of_number}
use Rattle.sm_rules.specs.RuleEvents.{Puts, rule_event}
use Rattle.sm_rules.specs.declared.rule.Rule.TheVariants.{ConstraintBounds}
use Rattle.sm_value_rules.specs.steps.Bounding.{is_wrong_length, is_wrong_range}
use Rattle.sm_passes.specs.Putting.{IsWhere}
use Rattle.sm_value_rules.proofs.WrongBounds.{bounds_put}
use Rattle.sm_value_rules.proofs.bounds.put_both_bounds.Goals as goal

pub returns : goal.returns
returns c =
    let id = id_of_number c.args.graph.now c.args.number in
    bounds_put (maps_of c.args.graph.now) id c.requires.own c.args.events.now.items c.put_if.new.events.items c.put_if-2.new.events.items
    (subst (λ w. Puts (IsWhere w (rule_event ConstraintBounds id (codes "length"))) c.args.events.now.items c.put_if.new.events.items)
    (c.is_wrong_length-length.ensures ∙ ap is_wrong_length c.trait_node.ensures) c.in_ok-put_if.ensures)
    (subst (λ w. Puts (IsWhere w (rule_event ConstraintBounds id (codes "range"))) c.put_if.new.events.items c.put_if-2.new.events.items)
    (c.is_wrong_range-range.ensures ∙ ap is_wrong_range c.trait_node-2.ensures) c.in_ok-put_if-2.ensures)
