use Rattle.sm_bounds.proofs.ReceivedFew.{received_few}
use Rattle.sm_bounds.proofs.laws.holds_few.Goals as goal

pub returns : goal.returns
returns g c codec come b is received =
    received_few g.S.EventSource.source codec come b c.laws.ensures.times c.laws.ensures.few c.laws.ensures.begin c.laws.ensures.complete
    c.kept_is_bounded.ensures c.opens_no_more.ensures.within c.opens_no_more.ensures.kinds is received
