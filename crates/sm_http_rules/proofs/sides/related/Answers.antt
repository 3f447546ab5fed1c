use Rattle.sm_http_rules.proofs.BoundSides.{along_one}
use Rattle.sm_http_rules.proofs.sides.related.Goals as goal

pub returns : goal.returns
returns c = along_one c.args.graph.now c.args.starts.now c.in_ok-marks.marks.items c.args.relation c.in_ok-marks.ensures
