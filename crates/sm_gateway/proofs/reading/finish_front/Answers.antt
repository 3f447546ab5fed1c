use Rattle.std.proofs.Common.{subst}
use Rattle.sm_session.specs.Responding.{HasReadRequest, begun_for}
use Rattle.std.specs.Prelude.{None}
use Rattle.sm_gateway.specs.GatewayView.{gateway_data}
use Rattle.sm_gateway.specs.steps.Reading.{GatewayReads, both_spoken}
use Rattle.sm_gateway.proofs.MessagesFinished.{all_of_request, reply_unasked, request_finished, request_refused}
use Rattle.sm_gateway.proofs.reading.finish_front.Goals as goal

pub returns-in-Refused-clause-answers : goal.returns-in-Refused-clause-answers
returns-in-Refused-clause-answers g c = λ m x.
    let gw = gateway_data c.args.gateway.now in
    let test = g.P.Patterns.test in
    request_refused (both_spoken c.args.gateway.now) gw test c.in-Refused.refusal m
    (subst (λ b. GatewayReads (both_spoken c.args.gateway.now) gw test b (begun_for None m) m.body) c.in-Refused.is x)

pub finish_request-requires-clause-begun : goal.finish_request-requires-clause-begun
finish_request-requires-clause-begun g c =
    let gw = gateway_data c.args.gateway.now in
    let test = g.P.Patterns.test in
    all_of_request (both_spoken c.args.gateway.now) gw test c.in-Request.body
    (subst (λ b. HasReadRequest (GatewayReads (both_spoken c.args.gateway.now) gw test b)) c.in-Request.is c.requires.whole)

pub returns-in-Request-clause-answers : goal.returns-in-Request-clause-answers
returns-in-Request-clause-answers g c = λ m x.
    let gw = gateway_data c.args.gateway.now in
    let test = g.P.Patterns.test in
    request_finished (both_spoken c.args.gateway.now) gw test c.in-Request.body c.finish_request.result c.finish_request.ensures.answers m
    (subst (λ b. GatewayReads (both_spoken c.args.gateway.now) gw test b (begun_for None m) m.body) c.in-Request.is x)

pub unreachable-requires : goal.unreachable-requires
unreachable-requires g c =
    let gw = gateway_data c.args.gateway.now in
    let test = g.P.Patterns.test in
    reply_unasked (both_spoken c.args.gateway.now) gw test c.in-Reply.field-0 c.in-Reply.field-1
    (subst (λ b. HasReadRequest (GatewayReads (both_spoken c.args.gateway.now) gw test b)) c.in-Reply.is c.requires.whole)
