use Rattle.std.proofs.Common.{◌++◌, ◌∷◌, [], ◌∙◌, ap}
use Rattle.sm_bodies.proofs.BodiesFed.{on_ok}
use Rattle.sm_http.specs.Written.{written}
use Rattle.sm_service.specs.ServiceView.{service_data}
use Rattle.sm_messages.specs.WrittenHeads.{written_response}
use Rattle.sm_rpc.specs.Heads.{cbor_type, protocol_field}
use Rattle.sm_rpc.proofs.RpcWritten.{reply_written}
use Rattle.sm_rpc.proofs.context.Rpc.append_response.Goals as goal

pub returns-clause-written : goal.returns-clause-written
returns-clause-written c = λ host.
    let s = service_data c.args.service.now in
    let body = c.as_slice.result.now in
    let message = ap (λ n. written_response n cbor_type (protocol_field ∷ []) body) c.reply_status-status.ensures
    ∙ reply_written s c.args.operation c.args.reply.now host body (c.as_slice.ensures.value ∙ c.in_ok-body.ensures)
    in
    on_ok c.append_response_of.result c.append_response_of.ensures.written
    (λ put. put ∙ ap (λ m. c.args.out.now.items ++ written m) message)
