use Rattle.std.proofs.Common.{sym}
use Rattle.sm_model.specs.GraphView.{maps_of}
use Rattle.sm_model.specs.Reaching.{id_of_number}
use Rattle.sm_reference_rules.proofs.BodyReferences.{body_put, no_body}
use Rattle.sm_reference_rules.proofs.references.BodiesAtEach.put_at.Goals as goal

pub returns-in_ok-put_body-in-Some : goal.returns-in_ok-put_body-in-Some
returns-in_ok-put_body-in-Some g c =
    body_put (maps_of c.args.graph.now) (g.A.AtReference.tells c.args.self.now.rule.now (maps_of c.args.graph.now))
    (id_of_number c.args.graph.now c.args.number) c.in-Some.kind (sym c.in-Some.ensures) c.args.events.now.items
    c.put_body.new.events.items c.in_ok-put_body-in-Some.ensures

pub returns-in-None : goal.returns-in-None
returns-in-None g c =
    no_body (maps_of c.args.graph.now) (g.A.AtReference.tells c.args.self.now.rule.now (maps_of c.args.graph.now))
    (id_of_number c.args.graph.now c.args.number) (sym c.in-None.ensures) c.args.events.now.items
