use Rattle.sm_rpc.proofs.Paths.{behind_both, behind_none}
use Rattle.sm_rpc.proofs.path.behind_both.Goals as goal

pub returns-in-Some : goal.returns-in-Some
returns-in-Some c =
    behind_both c.args.first.now c.args.second.now c.args.path.now c.in-Some.rest.now c.behind_text-in-Some.result c.in-Some.ensures
    c.behind_text-in-Some.ensures

pub returns-in-None : goal.returns-in-None
returns-in-None c = behind_none c.args.first.now c.args.second.now c.args.path.now c.in-None.ensures
