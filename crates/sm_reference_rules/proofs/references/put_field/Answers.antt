use Rattle.sm_tree.specs.View.{node_of}
use Rattle.sm_model.specs.GraphView.{maps_of}
use Rattle.sm_model.specs.Reaching.{id_of_number}
use Rattle.sm_reference_rules.proofs.BodyReferences.{field_none, field_said}
use Rattle.sm_reference_rules.proofs.references.put_field.Goals as goal

pub returns-in_ok-put_value-in-Some : goal.returns-in_ok-put_value-in-Some
returns-in_ok-put_value-in-Some g c =
    let says = g.A.AtReference.tells c.args.rule.now (maps_of c.args.graph.now) (id_of_number c.args.graph.now c.args.shape) in
    field_said says
    c.args.relation c.in-Some.relation (node_of c.args.value.now) c.in-Some.is c.args.events.now.items c.put_value.new.events.items
    c.in_ok-put_value-in-Some.ensures

pub returns-in-None : goal.returns-in-None
returns-in-None g c =
    let says = g.A.AtReference.tells c.args.rule.now (maps_of c.args.graph.now) (id_of_number c.args.graph.now c.args.shape) in
    field_none says
    c.args.relation (node_of c.args.value.now) c.in-None.is c.args.events.now.items
