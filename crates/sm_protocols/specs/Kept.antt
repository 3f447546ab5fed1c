-- What is kept of a service for a protocol, and for which.
use Rattle.std.specs.Prelude.{◌≡◌}
use Rattle.sm_http.specs.declared.message.Protocol.{Protocol}
use Rattle.sm_http.specs.declared.message.Protocol.TheVariants as protocol
use Rattle.sm_awsjson.specs.service.ServiceData.{ServiceData}
use Rattle.sm_rest_laws.specs.rest.RestOf.{IsRestOf}
use Rattle.sm_protocols.specs.declared.spoken.Spoken.{Spoken}
use Rattle.sm_protocols.specs.declared.spoken.Spoken.TheVariants.{AwsJson10, AwsJson11, RestJson1, RpcV2Cbor}

abbrev pub protocol_of : Spoken → Protocol
protocol_of AwsJson10 = protocol.AwsJson10
protocol_of AwsJson11 = protocol.AwsJson11
protocol_of (RestJson1 rest) = protocol.RestJson1
protocol_of RpcV2Cbor = protocol.RpcV2Cbor

-- it is of this service: restJson1 alone keeps something
abbrev pub IsKeptOf : ServiceData → Spoken → Type 0
IsKeptOf s AwsJson10 = Unit {0}
IsKeptOf s AwsJson11 = Unit {0}
IsKeptOf s (RestJson1 rest) = IsRestOf s rest
IsKeptOf s RpcV2Cbor = Unit {0}

-- and for this protocol
pub record IsSpokenOf (s : ServiceData) (p : Protocol) (spoken : Spoken) : Type 0 where
  pub protocol : protocol_of spoken ≡ p
  pub kept : IsKeptOf s spoken
