use Rattle.std.proofs.Common.{sym, ◌∙◌}
use Rattle.sm_rest.specs.service.ServiceView.{service_data}
use Rattle.sm_rest_read.proofs.RequestsJudged.{right_answer, unserved_answer, wrong_answer}
use Rattle.sm_rest_read.proofs.judging.judge_operation.Goals as goal

pub returns-in-Ok-Some : goal.returns-in-Ok-Some
returns-in-Ok-Some c =
    let s = service_data c.args.service.now in
    unserved_answer s c.args.head.now c.args.empty c.args.operation c.in-Ok-Some.path
    (sym c.in-Ok-Some.field-0-is ∙ c.in-Ok-Some.ensures)

pub returns-then-is_request_type : goal.returns-then-is_request_type
returns-then-is_request_type c =
    let s = service_data c.args.service.now in
    right_answer s c.args.head.now c.args.empty c.args.operation (sym c.in-Ok-None.field-0-is ∙ c.in-Ok-None.ensures)
    (sym c.is_request_type.ensures ∙ c.if-is_request_type.true)

pub returns-else-is_request_type : goal.returns-else-is_request_type
returns-else-is_request_type c =
    let s = service_data c.args.service.now in
    wrong_answer s c.args.head.now c.args.empty c.args.operation (sym c.in-Ok-None.field-0-is ∙ c.in-Ok-None.ensures)
    (sym c.is_request_type.ensures ∙ c.if-is_request_type.false)
