use Rattle.std.proofs.Common.{Some, ap, ◌∙◌}
use Rattle.std.proofs.lemmas.Result.{IfOk-weaker}
use Rattle.sm_compile.specs.declared.compiled.Served.TheVariants.{Unserved, Yes}
use Rattle.sm_rest.specs.service.ServiceView.{operation_data, served_said, service_data}
use Rattle.sm_rest_read.proofs.RequestsJudged.{unserved_by}
use Rattle.sm_rest_read.proofs.judging.unserved_path.Goals as goal

pub returns-in-Yes : goal.returns-in-Yes
returns-in-Yes c =
    let s = service_data c.args.service.now in
    IfOk-weaker c.restriction.result _ _
    (λ path is. is ∙ unserved_by s c.args.operation (operation_data c.operation_at.result.now) Yes c.operation_at.ensures
    (ap served_said c.in-Yes.is)) c.restriction.ensures

pub returns-in-Ok : goal.returns-in-Ok
returns-in-Ok c =
    let s = service_data c.args.service.now in
    ap Some c.in-Ok.ensures
    ∙ unserved_by s c.args.operation (operation_data c.operation_at.result.now) (Unserved c.in-Unserved.path) c.operation_at.ensures
    (ap served_said c.in-Unserved.is)
