use Rattle.std.proofs.Common.{◌≡◌, ◌++◌, ◌∷◌, rules, subst}
use Rattle.sm_service.specs.ServiceView.{service_data}
use Rattle.sm_awsjson.proofs.Targets.{told_named}
use Rattle.sm_awsjson.proofs.target.operation_at.Goals as goal

pub returns-in-Some : goal.returns-in-Some
returns-in-Some c =
    let same : c.as_bytes.result.now ≡ c.args.service.now.name = search rules in
    told_named (service_data c.args.service.now) c.args.target.now c.in-Some.name.now c.operation_named.result
    (subst (λ n. c.args.target.now ≡ n ++ 46 ∷ c.in-Some.name.now) same c.in-Some.ensures) c.operation_named.ensures
