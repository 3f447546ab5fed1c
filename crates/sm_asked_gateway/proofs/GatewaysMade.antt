-- What making a gateway comes to, from what its service comes to.
use Rattle.std.proofs.Common.{◌≡◌, ℕ, List, Option, None, Ok, sym, ap, ◌∙◌, subst}
use Rattle.sm_io.specs.Seen.{FilesSeen}
use Rattle.sm_shapes.specs.Fitting.{Test}
use Rattle.sm_shapes.specs.InOrder.{AreStored}
use Rattle.sm_compile.specs.Answers.{StoreSeen}
use Rattle.sm_asked_service.specs.service.ServiceView.{service_data}
use Rattle.sm_asked_service.specs.service.declared.service.Service.{Service}
use Rattle.sm_gateway.specs.rest.Laws.{TargetTextsWhereJson}
use Rattle.sm_asked_service.specs.asked.Stages.{told}
use Rattle.sm_asked_service.specs.LoadsService.{CanBeServed, LoadsService}
use Rattle.sm_gateway.specs.GatewayData.{GatewayData, ServesBoth}
use Rattle.sm_asked_gateway.specs.GatewayStages.{gateway_over}
use Rattle.sm_asked_gateway.specs.GatewayWords.{GatewayAsked}
use Rattle.sm_asked_gateway.specs.MakesGateway.{GatewayIsMade, IsGatewayMade}
use Rattle.sm_asked_gateway.proofs.LoadedServices.{loaded_serves}

module _ (files files1 : FilesSeen) (test : Test) (store store1 : StoreSeen) (w : GatewayAsked) (made : Service)
    (loads : LoadsService files files1 test store store1 w.models w.service (Ok made)) (g : GatewayData)
    (is : g ≡ gateway_over w (service_data made)) where
  is_made : (input : Option (List ℕ)) → IsGatewayMade (told files.held input test store None) w g
  is_made input = let l = loads.1 input in record { made = l.made; is = is ∙ ap (gateway_over w) l.is }

  -- it is the one that is asked for
  pub gateway_made : GatewayIsMade files test store store1 w g
  gateway_made = (loads.0, is_made)

  -- it serves, and its patterns are stored
  module _ (added : List (List ℕ)) (served : CanBeServed (service_data made) test added) where
    pub made_serves : TargetTextsWhereJson → ServesBoth g test
    made_serves texts =
        subst (λ x. ServesBoth x test) (sym is)
        (loaded_serves texts (told files.held None test store None) w.models w.service (service_data made) (loads.1 None) added served
        w.front w.back w.host)

    pub made_stored : AreStored g.service.table.patterns added
    made_stored = subst (λ (x : GatewayData). AreStored x.service.table.patterns added) (sym is) served.stored
