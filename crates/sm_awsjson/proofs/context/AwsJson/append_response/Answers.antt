use Rattle.std.proofs.Common.{[], ◌++◌, ap, ◌∙◌}
use Rattle.sm_bodies.proofs.BodiesFed.{on_ok}
use Rattle.sm_http.specs.Written.{written}
use Rattle.sm_service.specs.ServiceView.{service_data}
use Rattle.sm_messages.specs.Answers.{reply_role}
use Rattle.sm_messages.specs.Goals.{goal_of}
use Rattle.sm_messages.specs.TreeBodies.{status_of}
use Rattle.sm_messages.specs.WrittenHeads.{written_response}
use Rattle.sm_awsjson.proofs.AwsWritten.{reply_written}
use Rattle.sm_awsjson.proofs.context.AwsJson.append_response.Goals as goal

pub returns-clause-written : goal.returns-clause-written
returns-clause-written c = λ host.
    let s = service_data c.args.service.now in
    let version = c.args.self.now.version in
    let reply = c.args.reply.now in
    let body = c.as_slice.result.now in
    let status = status_of s (goal_of c.args.operation (reply_role reply)) in
    let message = ap (λ n. written_response n c.content_type.result.now [] body) c.reply_status-status.ensures
    ∙ ap (λ t. written_response status t [] body) c.content_type.ensures
    ∙ reply_written version s c.args.operation reply host body (c.as_slice.ensures.value ∙ c.in_ok-body.ensures) in
    on_ok c.append_response_of.result c.append_response_of.ensures.written
    (λ put. put ∙ ap (λ m. c.args.out.now.items ++ written m) message)
