-- A service of which restJson1 has all that it asks is served by each protocol.
use Rattle.sm_http.specs.declared.message.Protocol.{Protocol}
use Rattle.sm_http.specs.declared.message.Protocol.TheVariants.{AwsJson10, AwsJson11, RestJson1, RpcV2Cbor}
use Rattle.sm_awsjson.specs.service.ServiceData.{ServiceData}
use Rattle.sm_rest_laws.specs.rest.RestServable.{RestServable}
use Rattle.sm_protocols.specs.Forms.{form_of}

pub each_serves : (p : Protocol) (s : ServiceData) → RestServable s → (form_of p).serves s
each_serves AwsJson10 s h = tt
each_serves AwsJson11 s h = tt
each_serves RestJson1 s h = h
each_serves RpcV2Cbor s h = tt
