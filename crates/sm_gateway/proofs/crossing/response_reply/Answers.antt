use Rattle.std.proofs.Common.{◌∙◌, ap, []}
use Rattle.sm_protocols.specs.messages.Goals.{a_response}
use Rattle.sm_protocols.specs.messages.Heads.{is_empty}
use Rattle.sm_gateway.specs.GatewayData.{back_form, front_form}
use Rattle.sm_gateway.specs.GatewayView.{gateway_data}
use Rattle.sm_gateway.proofs.MessagesCrossed.{body_whole, response_read, response_refused}
use Rattle.sm_gateway.proofs.ValuesKept.{far_serves}
use Rattle.sm_gateway.proofs.crossing.response_reply.Goals as goal

pub begin_response-requires-clause-served : goal.begin_response-requires-clause-served
begin_response-requires-clause-served g c =
    let gw = gateway_data c.args.gateway.now in
    far_serves (front_form gw) (back_form gw) gw.service c.args.operation c.requires.served

pub returns-in-Err-clause-reads : goal.returns-in-Err-clause-reads
returns-in-Err-clause-reads g c =
    response_refused (gateway_data c.args.gateway.now) g.P.Patterns.test c.args.operation c.args.message.now c.is_empty-empty.result
    c.in-Err.refusal (c.is_empty-empty.ensures ∙ ap is_empty c.as_slice-bytes.ensures) c.in-Err.ensures

pub piece-requires-clause-begun : goal.piece-requires-clause-begun
piece-requires-clause-begun g c =
    (a_response c.args.operation, c.args.message.now.head, c.is_empty-empty.result, [], c.in-Ok.ensures g.P.Patterns.test)

pub finish_response-requires-clause-begun : goal.finish_response-requires-clause-begun
finish_response-requires-clause-begun g c =
    let gw = gateway_data c.args.gateway.now in
    let all = body_whole c.args.gateway.now.back gw.service g.P.Patterns.test (a_response c.args.operation) c.piece.new.self
    c.args.message.now
    c.is_empty-empty.result c.as_slice-bytes.result.now c.as_slice-bytes.ensures c.is_empty-empty.ensures
    (c.in-Ok-piece.ensures.begun (a_response c.args.operation) c.args.message.now.head c.is_empty-empty.result []
    (c.in-Ok.ensures g.P.Patterns.test)) in
    (c.args.operation, (c.args.message.now.head, c.args.message.now.body, all))

pub returns-in-Ok-piece-clause-reads : goal.returns-in-Ok-piece-clause-reads
returns-in-Ok-piece-clause-reads g c =
    let gw = gateway_data c.args.gateway.now in
    response_read gw g.P.Patterns.test c.args.operation c.args.message.now c.finish_response.result
    (c.finish_response.ensures.answers c.args.operation c.args.message.now.head c.args.message.now.body
    (body_whole c.args.gateway.now.back gw.service g.P.Patterns.test (a_response c.args.operation) c.piece.new.self c.args.message.now
    c.is_empty-empty.result c.as_slice-bytes.result.now c.as_slice-bytes.ensures c.is_empty-empty.ensures
    (c.in-Ok-piece.ensures.begun (a_response c.args.operation) c.args.message.now.head c.is_empty-empty.result []
    (c.in-Ok.ensures g.P.Patterns.test))))
