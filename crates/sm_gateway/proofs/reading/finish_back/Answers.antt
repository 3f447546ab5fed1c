use Rattle.std.proofs.Common.{subst, sym}
use Rattle.std.specs.Prelude.{Some}
use Rattle.sm_session.specs.Responding.{HasReadReply, begun_for}
use Rattle.sm_gateway.specs.GatewayView.{gateway_data}
use Rattle.sm_gateway.specs.steps.Reading.{AnswersReply, GatewayReads, both_spoken}
use Rattle.sm_gateway.proofs.MessagesFinished.{all_of_reply, reply_finished, reply_refused_whole, request_asked_of}
use Rattle.sm_gateway.proofs.reading.finish_back.Goals as goal

pub returns-in-Refused-clause-answers : goal.returns-in-Refused-clause-answers
returns-in-Refused-clause-answers g c = λ m said x.
    let gw = gateway_data c.args.gateway.now in
    let test = g.P.Patterns.test in
    reply_refused_whole (both_spoken c.args.gateway.now) gw test c.in-Refused.refusal m said
    (subst (λ b. GatewayReads (both_spoken c.args.gateway.now) gw test b (begun_for (Some m) said) said.body) c.in-Refused.is x)

pub unreachable-requires : goal.unreachable-requires
unreachable-requires g c =
    let gw = gateway_data c.args.gateway.now in
    let test = g.P.Patterns.test in
    request_asked_of (both_spoken c.args.gateway.now) gw test c.in-Request.field-0
    (subst (λ b. HasReadReply (GatewayReads (both_spoken c.args.gateway.now) gw test b)) c.in-Request.is c.requires.whole)

pub finish_response-reply-requires-clause-begun : goal.finish_response-reply-requires-clause-begun
finish_response-reply-requires-clause-begun g c =
    let gw = gateway_data c.args.gateway.now in
    let test = g.P.Patterns.test in
    all_of_reply (both_spoken c.args.gateway.now) gw test c.in-Reply.operation c.in-Reply.body
    (subst (λ b. HasReadReply (GatewayReads (both_spoken c.args.gateway.now) gw test b)) c.in-Reply.is c.requires.whole)

pub returns-in-Reply-clause-answers : goal.returns-in-Reply-clause-answers
returns-in-Reply-clause-answers g c = λ m said x.
    let gw = gateway_data c.args.gateway.now in
    let test = g.P.Patterns.test in
    subst (λ r. AnswersReply gw test m said r) (sym c.replied.ensures)
    (reply_finished (both_spoken c.args.gateway.now) gw test c.requires.serves c.requires.reads c.in-Reply.operation c.in-Reply.body
    c.finish_response-reply.result
    (c.finish_response-reply.ensures.answers c.in-Reply.operation) m said
    (subst (λ b. GatewayReads (both_spoken c.args.gateway.now) gw test b (begun_for (Some m) said) said.body) c.in-Reply.is x))
