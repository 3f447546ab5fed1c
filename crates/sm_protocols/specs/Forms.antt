-- Each protocol as a form of messages. All that is said of a gateway is said over two of them, so a protocol more is a line more here.
use Rattle.sm_http.specs.declared.message.Protocol.{Protocol}
use Rattle.sm_http.specs.declared.message.Protocol.TheVariants.{AwsJson10, AwsJson11, RestJson1, RpcV2Cbor}
use Rattle.sm_awsjson.specs.messages.MessageForm.{MessageForm}
use Rattle.sm_awsjson.specs.Messages.{aws_form}
use Rattle.sm_awsjson.specs.declared.version.AwsVersion.TheVariants.{V10, V11}
use Rattle.sm_rest_laws.specs.rest.RestForm.{rest_form}
use Rattle.sm_rpc.specs.Messages.{rpc_form}

abbrev pub form_of : Protocol → MessageForm
form_of AwsJson10 = aws_form V10
form_of AwsJson11 = aws_form V11
form_of RestJson1 = rest_form
form_of RpcV2Cbor = rpc_form
