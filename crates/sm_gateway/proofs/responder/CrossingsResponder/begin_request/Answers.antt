use Rattle.sm_gateway.proofs.responder.CrossingsResponder.begin_request.Goals as goal

pub returns-clause-reads : goal.returns-clause-reads
returns-clause-reads g c = c.begin_front.ensures g.P.Patterns.test c.requires.stands.0.0
