use Rattle.sm_bodies.proofs.BodiesFed.{body_begun}
use Rattle.sm_bodies.proofs.body.Body.begin.Goals as goal

pub returns-in-Ok-clause-fed : goal.returns-in-Ok-clause-fed
returns-in-Ok-clause-fed g c = λ codec same.
    body_begun g.S.EventSource.source codec c.args.shape c.begin.result c.in-Ok.decoder c.begin.ensures.stands c.begin.ensures.fresh
    c.laws.ensures.few (c.in-Ok.ensures.empty codec same) c.in-Ok.ensures.shape

pub returns-in-Ok-clause-memory : goal.returns-in-Ok-clause-memory
returns-in-Ok-clause-memory g c out = let fresh = c.begin.ensures.fresh in absurd cc
