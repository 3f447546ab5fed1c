use Rattle.sm_http.specs.declared.message.MessageSide.TheVariants.{Request as of_requests, Response as of_responses}
use Rattle.sm_http.specs.declared.message.Protocol.{Protocol}
use Rattle.sm_http.specs.declared.message.Protocol.TheVariants.{AwsJson10, AwsJson11, RestJson1, RpcV2Cbor}
use Rattle.sm_http.specs.Laws.{WrittenIsRead}
use Rattle.sm_awsjson.specs.declared.version.AwsVersion.TheVariants.{V10, V11}
use Rattle.sm_part_texts.specs.Laws.{CarriedTextsPass}
use Rattle.sm_gateway.specs.GatewayData.{GatewayData, front_form}
use Rattle.sm_framed_laws.specs.Framing.{WrittenIsFramed}
use Rattle.sm_framed_laws.proofs.AwsFramed.{aws_framed}
use Rattle.sm_framed_laws.proofs.RestFramed.{rest_framed}
use Rattle.sm_framed_laws.proofs.RpcFramed.{rpc_framed}
use Rattle.sm_framed_laws.proofs.written_is_framed.Goals as goal

-- of the protocol in front of such a gateway
by_protocol : WrittenIsRead of_requests → WrittenIsRead of_responses → CarriedTextsPass → (g : GatewayData) (p : Protocol)
    → WrittenIsFramed (front_form (record g { front = p }))
by_protocol asked answered pass g AwsJson10 = aws_framed asked answered V10
by_protocol asked answered pass g AwsJson11 = aws_framed asked answered V11
by_protocol asked answered pass g RestJson1 = rest_framed pass asked answered
by_protocol asked answered pass g RpcV2Cbor = rpc_framed asked answered

pub returns-clause-front : goal.returns-clause-front
returns-clause-front c = λ g. by_protocol (c.written_is_read.ensures of_requests) (c.written_is_read.ensures of_responses)
    c.carried_texts_pass.ensures g g.front

pub returns-clause-back : goal.returns-clause-back
returns-clause-back c = λ g. by_protocol (c.written_is_read.ensures of_requests) (c.written_is_read.ensures of_responses)
    c.carried_texts_pass.ensures g g.back
