use Rattle.sm_http.specs.declared.message.Protocol.{Protocol}
use Rattle.sm_http.specs.declared.message.Protocol.TheVariants.{AwsJson10, AwsJson11, RestJson1, RpcV2Cbor}
use Rattle.sm_awsjson.specs.declared.version.AwsVersion.TheVariants.{V10, V11}
use Rattle.sm_part_texts.specs.Laws.{CarriedTextsPass}
use Rattle.sm_gateway.specs.GatewayData.{GatewayData, front_form}
use Rattle.sm_framed_laws.proofs.ExchangesCross.{messages_cross}
use Rattle.sm_framed_laws.proofs.OpenHeads.{StaysOpen, aws_open, rest_open, rpc_open}
use Rattle.sm_framed_laws.proofs.written_messages_cross.Goals as goal

-- of the protocol in front of such a gateway
stays_open : CarriedTextsPass → (g : GatewayData) (p : Protocol) → StaysOpen (front_form (record g { front = p }))
stays_open pass g AwsJson10 = aws_open V10
stays_open pass g AwsJson11 = aws_open V11
stays_open pass g RestJson1 = rest_open pass
stays_open pass g RpcV2Cbor = rpc_open

pub returns : goal.returns
returns c = λ g. λ test host es serves host_is few may.
    messages_cross g test host serves host_is
    (record {
      form = c.each_is_form.ensures g.front;
      framed = c.written_is_framed.ensures.front g;
      stays = stays_open c.carried_texts_pass.ensures g g.front;
    })
    (record {
      form = c.each_is_form.ensures g.back;
      framed = c.written_is_framed.ensures.back g;
      stays = stays_open c.carried_texts_pass.ensures g g.back;
    })
    (c.crosses_or_refused.ensures g.front g.back) (c.crosses_or_refused.ensures g.back g.front) es few may
