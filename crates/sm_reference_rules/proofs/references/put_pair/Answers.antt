use Rattle.std.proofs.Common.{ap, subst, ◌∙◌}
use Rattle.sm_tree.specs.View.{node_of}
use Rattle.sm_model.specs.GraphView.{maps_of}
use Rattle.sm_model.specs.Reaching.{id_of_number}
use Rattle.sm_model.specs.Relations.{field_relations, relation_under}
use Rattle.sm_rules.specs.RuleEvents.{Puts}
use Rattle.sm_reference_rules.specs.steps.References.{ToldField}
use Rattle.sm_reference_rules.proofs.references.put_pair.Goals as goal

pub returns : goal.returns
returns g c =
    let says = g.A.AtReference.tells c.args.rule.now (maps_of c.args.graph.now) (id_of_number c.args.graph.now c.args.shape) in
    subst (λ r. Puts (ToldField says
    r (node_of c.args.pair.now.1)) c.args.events.now.items c.put_field.new.events.items)
    (c.of_field-relation.ensures ∙ ap (λ n. relation_under n (field_relations c.args.kind)) c.as_str.ensures.bytes)
    c.in_ok-put_field.ensures
