-- A command over a gateway has come to it where a service of its model files is compiled, over bytes alone: each protocol serves it.
use Rattle.sm_asked_service.specs.service.ServiceData.{ServiceData}
use Rattle.sm_asked_service.specs.asked.Stages.{Told}
use Rattle.sm_asked_service.specs.ServiceStages.{ServiceMade, service_of}
use Rattle.sm_gateway.specs.GatewayData.{GatewayData}
use Rattle.sm_asked_gateway.specs.GatewayWords.{GatewayAsked}

abbrev pub GatewayMade : Told → GatewayAsked → Type 0
GatewayMade t w = ServiceMade t w.models w.service

-- a service between the protocols that are asked for
abbrev pub gateway_over : GatewayAsked → ServiceData → GatewayData
gateway_over w s = record { service = s; front = w.front; back = w.back; host = w.host }

-- the gateway
abbrev pub gateway_of : (t : Told) (w : GatewayAsked) → GatewayMade t w → GatewayData
gateway_of t w h = gateway_over w (service_of t w.models w.service h)
