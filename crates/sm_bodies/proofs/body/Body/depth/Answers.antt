use Rattle.sm_bodies.proofs.BodiesFed.{held_shallow}
use Rattle.sm_bodies.proofs.body.Body.depth.Goals as goal

pub returns-clause-few : goal.returns-clause-few
returns-clause-few g c codec shape bytes laws memory fed =
    held_shallow g.S.EventSource.source codec shape c.args.self.now.reader c.args.self.now.decoder bytes c.laws.ensures.times
    c.laws.ensures.few c.laws.ensures.begin c.laws.ensures.complete c.opens_no_more.ensures.within c.opens_no_more.ensures.kinds laws
    c.depth.ensures.bounded memory fed
