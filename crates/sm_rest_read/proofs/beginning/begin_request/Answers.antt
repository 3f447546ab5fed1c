use Rattle.std.proofs.Common.{◌≡◌}
use Rattle.sm_rest.specs.service.ServiceView.{service_data}
use Rattle.sm_rest.specs.messages.Goals.{a_request, goal_of, the_input}
use Rattle.sm_rest.specs.messages.HeadAnswers.{IsJudged, addressed, refused_at_head, request_answer, to_goal}
use Rattle.sm_rest.proofs.messages.BodiesBegun.{request_within}
use Rattle.sm_rest.proofs.messages.TreeAnswered.{head_refused}
use Rattle.sm_rest.specs.RestForm.{rest_form}
use Rattle.sm_rest.proofs.RestReads.{rest_reads}
use Rattle.sm_rest_read.proofs.RestBodies.{begins_as, named_number, request_judged}
use Rattle.sm_rest_read.proofs.beginning.begin_request.Goals as goal

pub judge_named-requires-clause-number : goal.judge_named-requires-clause-number
judge_named-requires-clause-number c =
    named_number (service_data c.args.service.now) c.args.head.now c.operation_of-named.result c.operation_of-named.ensures

pub request_begun-requires-clause-number : goal.request_begun-requires-clause-number
request_begun-requires-clause-number c =
    let s = service_data c.args.service.now in
    let head = c.args.head.now in
    let o = c.in-Ok.operation in
    request_within rest_form rest_reads s head c.args.empty o
    (request_judged s head c.args.empty c.operation_of-named.result (addressed (to_goal (goal_of o the_input))) c.operation_of-named.ensures
    c.in-Ok.ensures)

pub returns-in-Ok : goal.returns-in-Ok
returns-in-Ok c test =
    let s = service_data c.args.service.now in
    let head = c.args.head.now in
    let o = c.in-Ok.operation in
    begins_as (IsJudged rest_form s a_request head c.args.empty) _ c.request_begun.result
    (c.request_begun.ensures test
    (request_judged s head c.args.empty c.operation_of-named.result (addressed (to_goal (goal_of o the_input))) c.operation_of-named.ensures
    c.in-Ok.ensures))

pub returns-in-Err : goal.returns-in-Err
returns-in-Err c test =
    let s = service_data c.args.service.now in
    let head = c.args.head.now in
    let named = c.operation_of-named.result in
    head_refused (λ r. request_answer rest_form s head c.args.empty named ≡ refused_at_head r)
    (λ r. IsJudged rest_form s a_request head c.args.empty (refused_at_head r))
    (λ r at. request_judged s head c.args.empty named (refused_at_head r) c.operation_of-named.ensures at) c.in-Err.refusal c.in-Err.ensures
