use Rattle.sm_tree.specs.View.{node_of}
use Rattle.sm_model.specs.GraphView.{maps_of}
use Rattle.sm_model.specs.Reaching.{id_of_number}
use Rattle.sm_reference_rules.proofs.BodyReferences.{no_text, text_alone}
use Rattle.sm_reference_rules.proofs.references.put_text.Goals as goal

pub returns-in_ok-put_for-in-Some : goal.returns-in_ok-put_for-in-Some
returns-in_ok-put_for-in-Some g c =
    let says = g.A.AtReference.tells c.args.rule.now (maps_of c.args.graph.now) (id_of_number c.args.graph.now c.args.shape) in
    text_alone (says c.args.relation)
    (node_of c.args.tree.now) c.in-Some.id.now c.in-Some.ensures.node c.args.events.now.items c.put_for.new.events.items
    c.in_ok-put_for-in-Some.ensures

pub returns-in-None : goal.returns-in-None
returns-in-None g c =
    let says = g.A.AtReference.tells c.args.rule.now (maps_of c.args.graph.now) (id_of_number c.args.graph.now c.args.shape) in
    no_text (says c.args.relation)
    (node_of c.args.tree.now) c.in-None.ensures.node c.args.events.now.items
