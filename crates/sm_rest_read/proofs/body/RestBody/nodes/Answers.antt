use Rattle.sm_rest_read.proofs.RestBodies.{nodes_few}
use Rattle.sm_rest_read.proofs.body.RestBody.nodes.Goals as goal

pub returns-in-Fed-clause-few : goal.returns-in-Fed-clause-few
returns-in-Fed-clause-few c rest s added test asked head empty bytes are stored pass begun =
    nodes_few rest s added test asked head empty bytes c.laws.ensures.times c.laws.ensures.few c.laws.ensures.begin c.laws.ensures.complete
    c.kept_is_bounded.ensures are stored pass c.args.self.now begun
