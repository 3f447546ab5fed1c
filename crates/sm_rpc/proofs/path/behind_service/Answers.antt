use Rattle.std.specs.Prelude.{◌++◌, codes}
use Rattle.sm_rpc.proofs.Paths.{behind_both, behind_none}
use Rattle.sm_rpc.proofs.path.behind_service.Goals as goal

pub returns-in-Some : goal.returns-in-Some
returns-in-Some c =
    behind_both (codes "/service/" ++ c.args.name.now) (codes "/operation/") c.args.path.now c.in-Some.rest.now c.behind_text.result
    c.in-Some.ensures c.behind_text.ensures

pub returns-in-None : goal.returns-in-None
returns-in-None c = behind_none (codes "/service/" ++ c.args.name.now) (codes "/operation/") c.args.path.now c.in-None.ensures
