-- What the words of the code ask for.
use Rattle.sm_asked_gateway.specs.GatewayWords.{GatewayAsked}
use Rattle.sm_asked_gateway.specs.declared.words.GatewayWords.{GatewayWords}

abbrev pub gateway_asked : GatewayWords → GatewayAsked
gateway_asked w = record { models = w.models.now; service = w.service.now; front = w.front; back = w.back; host = w.host.now }
