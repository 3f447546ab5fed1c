use Rattle.std.proofs.Common.{◌≡◌, refl, rules, subst}
use Rattle.std.specs.Prelude.{◌++◌, codes}
use Rattle.sm_service.specs.ServiceView.{service_data}
use Rattle.sm_rpc.proofs.Paths.{path_named}
use Rattle.sm_rpc.proofs.path.operation_at.Goals as goal

pub returns-in-Some : goal.returns-in-Some
returns-in-Some c =
    let s = service_data c.args.service.now in
    let same : c.as_bytes.result.now ≡ c.args.service.now.name = search rules in
    path_named s c.args.path.now (codes "/service/" ++ s.name ++ codes "/operation/") c.in-Some.name.now c.operation_named.result refl
    (subst (λ n. c.args.path.now ≡ codes "/service/" ++ n ++ codes "/operation/" ++ c.in-Some.name.now) same c.in-Some.ensures)
    c.operation_named.ensures
