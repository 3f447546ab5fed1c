use Rattle.sm_http_rules.proofs.LeftOutLed.{few_steps, leading_marked, starts_count, stay_below}
use Rattle.sm_http_rules.proofs.left_out.leading_to.Goals as goal

pub reached-requires-clause-count : goal.reached-requires-clause-count
reached-requires-clause-count c =
    starts_count c.args.graph.now c.args.steps.now c.requires.steps c.args.left_out.now c.requires.left_out

pub reached-requires-clause-few : goal.reached-requires-clause-few
reached-requires-clause-few c = few_steps c.args.graph.now c.args.steps.now c.requires.steps c.args.left_out.now c.requires.left_out

pub reached-requires-clause-below : goal.reached-requires-clause-below
reached-requires-clause-below c = stay_below c.args.graph.now c.args.steps.now c.requires.steps c.args.left_out.now c.requires.left_out

pub returns : goal.returns
returns c =
    leading_marked c.args.graph.now c.args.steps.now c.requires.steps c.args.left_out.now c.requires.left_out c.in_ok-marks.marks.items
    c.in_ok-marks.ensures.count c.in_ok-marks.ensures.marked
