use Rattle.sm_awsjson.proofs.Targets.{stop_behind}
use Rattle.sm_awsjson.proofs.target.behind_name.Goals as goal

pub returns-in-Some : goal.returns-in-Some
returns-in-Some c =
    stop_behind c.args.name.now c.args.target.now c.in-Some.rest.now c.behind_text-in-Some.result c.in-Some.ensures
    c.behind_text-in-Some.ensures
