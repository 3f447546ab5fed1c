use Rattle.sm_rest_read.proofs.RestBodies.{frames_few}
use Rattle.sm_rest_read.proofs.body.RestBody.depth.Goals as goal

pub returns-in-Fed-clause-few : goal.returns-in-Fed-clause-few
returns-in-Fed-clause-few c rest s added test asked head empty bytes are stored pass begun =
    frames_few rest s added test asked head empty bytes c.laws.ensures.times c.laws.ensures.few c.laws.ensures.begin c.laws.ensures.complete
    c.kept_is_bounded.ensures are stored pass c.opens_no_more.ensures.within c.opens_no_more.ensures.kinds c.args.self.now begun
