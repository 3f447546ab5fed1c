use Rattle.sm_model.specs.GraphView.{maps_of}
use Rattle.sm_reference_rules.proofs.BodyReferences.{bodies_put}
use Rattle.sm_reference_rules.proofs.references.put_bodies.Goals as goal

pub returns : goal.returns
returns g c =
    bodies_put c.args.graph.now (g.A.AtReference.tells c.args.rule.now (maps_of c.args.graph.now)) c.args.events.now.items
    c.put_each.new.events.items c.in_ok-put_each.ensures
