use Rattle.sm_bodies.proofs.BodiesFed.{held_few}
use Rattle.sm_bodies.proofs.body.Body.nodes.Goals as goal

pub returns-clause-few : goal.returns-clause-few
returns-clause-few g c codec shape bytes laws memory fed =
    held_few g.S.EventSource.source codec shape c.args.self.now.reader c.args.self.now.decoder bytes c.laws.ensures.times c.laws.ensures.few
    c.laws.ensures.begin
    c.laws.ensures.complete laws c.nodes.ensures.bounded memory fed
