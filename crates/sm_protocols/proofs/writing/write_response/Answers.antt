use Rattle.std.proofs.Common.{◌≡◌, sym, subst, ap}
use Rattle.std.specs.Prelude.{IfOk}
use Rattle.sm_awsjson.specs.service.ServiceView.{service_data}
use Rattle.sm_awsjson.specs.messages.Answers.{reply_role, reply_val}
use Rattle.sm_awsjson.specs.messages.Goals.{goal_of}
use Rattle.sm_protocols.specs.Kept.{protocol_of}
use Rattle.sm_protocols.specs.Forms.{form_of}
use Rattle.sm_protocols.proofs.writing.write_response.Goals as goal

pub returns-in-RpcV2Cbor : goal.returns-in-RpcV2Cbor
returns-in-RpcV2Cbor c host =
    subst (λ p. IfOk c.write_response-in-RpcV2Cbor.result (λ message. message ≡ (form_of p).written (service_data c.args.service.now)
    (goal_of c.args.operation (reply_role c.args.reply.now)) host (reply_val c.args.reply.now))) (sym (ap protocol_of c.in-RpcV2Cbor.is))
    (c.write_response-in-RpcV2Cbor.ensures host)
