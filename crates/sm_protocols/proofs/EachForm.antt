-- Each protocol is a form of messages.
use Rattle.sm_http.specs.declared.message.Protocol.{Protocol}
use Rattle.sm_http.specs.declared.message.Protocol.TheVariants.{AwsJson10, AwsJson11, RestJson1, RpcV2Cbor}
use Rattle.sm_awsjson.specs.messages.IsForm.{IsForm}
use Rattle.sm_awsjson.specs.declared.version.AwsVersion.TheVariants.{V10, V11}
use Rattle.sm_awsjson.proofs.AwsForm.{aws_is_form}
use Rattle.sm_rest_laws.specs.rest.RestForm.{rest_form}
use Rattle.sm_rpc.specs.Messages.{rpc_form}
use Rattle.sm_protocols.specs.Forms.{form_of}

pub each_is_form : IsForm rpc_form → IsForm rest_form → (p : Protocol) → IsForm (form_of p)
each_is_form rpc rest AwsJson10 = aws_is_form V10
each_is_form rpc rest AwsJson11 = aws_is_form V11
each_is_form rpc rest RestJson1 = rest
each_is_form rpc rest RpcV2Cbor = rpc
