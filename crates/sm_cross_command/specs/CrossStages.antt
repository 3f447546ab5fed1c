-- How far the command `cross` has come behind a service of its model files, over bytes alone: the bytes of the back are read. Then a
-- session may begin.
use Rattle.sm_asked_ends.specs.asked.Stages.{Told, FileRead}
use Rattle.sm_asked_gateway.specs.asked_service.ServiceStages.{ServiceMade, service_of}
use Rattle.sm_asked_gateway.specs.gateway.GatewayData.{GatewayData}
use Rattle.sm_cross_command.specs.CrossWords.{CrossAsked}

pub record CrossOpens (t : Told) (w : CrossAsked) : Type 0 where
  pub made : ServiceMade t w.models w.service
  pub back : FileRead t.files w.back_file

-- the gateway of the session
abbrev pub gateway_of : (t : Told) (w : CrossAsked) → CrossOpens t w → GatewayData
gateway_of t w h = record { service = service_of t w.models w.service h.made; front = w.front; back = w.back; host = w.host }
