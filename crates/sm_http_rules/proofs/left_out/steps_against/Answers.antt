use Rattle.sm_http_rules.proofs.LeftOutLed.{kept_below, value_steps}
use Rattle.sm_http_rules.proofs.left_out.steps_against.Goals as goal

pub new-requires : goal.new-requires
new-requires c =
    kept_below c.args.graph.now c.args.links.now c.args.of_values.now c.requires.links c.requires.of_values c.count.result c.count.ensures

pub returns : goal.returns
returns c =
    value_steps c.args.graph.now c.args.links.now c.args.of_values.now c.requires.links c.requires.of_values c.count.result c.count.ensures
    c.in_ok-steps.steps c.in_ok-steps.ensures
