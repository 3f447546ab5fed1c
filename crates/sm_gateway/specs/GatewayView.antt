-- What a gateway is seen as, and that what it keeps for its protocols is of its service.
use Rattle.sm_protocols.specs.service.ServiceView.{service_data}
use Rattle.sm_protocols.specs.Kept.{IsKeptOf, protocol_of}
use Rattle.sm_gateway.specs.GatewayData.{GatewayData}
use Rattle.sm_gateway.specs.declared.gateway.Gateway.{Gateway}

abbrev pub gateway_data : Gateway → GatewayData
gateway_data g =
    record { service = service_data g.service; front = protocol_of g.front; back = protocol_of g.back; host = g.host }

pub record KeepsBoth (g : Gateway) : Type 0 where
  pub front : IsKeptOf (service_data g.service) g.front
  pub back : IsKeptOf (service_data g.service) g.back
