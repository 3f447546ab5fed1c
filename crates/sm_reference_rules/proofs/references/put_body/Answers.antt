use Rattle.std.specs.FinMap as fin
use Rattle.sm_model.specs.GraphView.{maps_of}
use Rattle.sm_model.specs.Reaching.{id_of_number}
use Rattle.sm_reference_rules.specs.steps.References.{body_in}
use Rattle.sm_reference_rules.proofs.BodyReferences.{fields_put, no_fields}
use Rattle.sm_reference_rules.proofs.references.put_body.Goals as goal

pub returns-in_ok-put_fields-in-Some : goal.returns-in_ok-put_fields-in-Some
returns-in_ok-put_fields-in-Some g c =
    let says = g.A.AtReference.tells c.args.rule.now (maps_of c.args.graph.now) (id_of_number c.args.graph.now c.args.shape) in
    fields_put says c.args.kind
    (body_in (fin.get (maps_of c.args.graph.now).shapes (id_of_number c.args.graph.now c.args.shape))) c.in-Some.pairs.now c.in-Some.ensures
    c.args.events.now.items c.put_fields.new.events.items c.in_ok-put_fields-in-Some.ensures

pub returns-in-None : goal.returns-in-None
returns-in-None g c =
    let says = g.A.AtReference.tells c.args.rule.now (maps_of c.args.graph.now) (id_of_number c.args.graph.now c.args.shape) in
    no_fields says c.args.kind
    (body_in (fin.get (maps_of c.args.graph.now).shapes (id_of_number c.args.graph.now c.args.shape))) c.in-None.ensures
    c.args.events.now.items
