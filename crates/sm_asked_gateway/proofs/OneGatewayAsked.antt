-- Files and a store come to one answer before a gateway, or to one gateway: its service is one.
use Rattle.std.proofs.Common.{ap}
use Rattle.sm_codec.specs.Defaults.{filled}
use Rattle.sm_asked_service.specs.load.Laws.{ReadyModels}
use Rattle.sm_asked_service.specs.service.Filled.{over_table}
use Rattle.sm_asked_service.specs.service.Laws.{OneService}
use Rattle.sm_asked_service.specs.service.ServiceData.{ServiceData}
use Rattle.sm_asked_service.specs.asked.Stages.{Told}
use Rattle.sm_asked_service.proofs.asked.ToldAll.{IsToldWhole, all_told}
use Rattle.sm_asked_service.proofs.OneServiceAsked.{service_apart, service_same, services_same}
use Rattle.sm_gateway.specs.GatewayData.{GatewayData}
use Rattle.sm_asked_gateway.specs.GatewayStages.{GatewayMade, gateway_of, gateway_over}
use Rattle.sm_asked_gateway.specs.GatewayWords.{GatewayAsked}
use Rattle.sm_asked_gateway.specs.Laws.{OneGateway}

gateways_same : OneService → ReadyModels → (t : Told) → IsToldWhole t → (w : GatewayAsked) (h i : GatewayMade t w)
    → Path GatewayData (gateway_of t w h) (gateway_of t w i)
gateways_same ones ready t whole w h i =
    ap (λ (s : ServiceData). gateway_over w (over_table s (filled s.table t.test)))
    (services_same t whole w.models w.service ones ready h i)

pub one_gateway : OneService → ReadyModels → OneGateway
one_gateway ones ready w t folder input all =
    let whole = all_told t folder input all in record {
      answers = service_same t whole w.models w.service;
      apart = service_apart t whole w.models w.service;
      gateways = gateways_same ones ready t whole w;
    }
