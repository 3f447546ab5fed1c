-- What making a gateway comes to: the gateway that is asked for, or what stands before it.
use Rattle.std.specs.Prelude.{◌≡◌, ℕ, List, Option, None, Result, Ok, Err}
use Rattle.sm_io.specs.Seen.{FilesSeen}
use Rattle.sm_shapes.specs.Fitting.{Test}
use Rattle.sm_compile.specs.Answers.{StoreSeen}
use Rattle.sm_asked_service.specs.asked.Stages.{Told, told}
use Rattle.sm_asked_service.specs.asked.declared.stop.CommandStop.{CommandStop}
use Rattle.sm_asked_service.specs.LoadsService.{StopsBefore}
use Rattle.sm_gateway.specs.GatewayData.{GatewayData}
use Rattle.sm_gateway.specs.GatewayView.{gateway_data}
use Rattle.sm_gateway.specs.declared.gateway.Gateway.{Gateway}
use Rattle.sm_asked_gateway.specs.GatewayAnswers.{GatewayAnswers}
use Rattle.sm_asked_gateway.specs.GatewayStages.{GatewayMade, gateway_of}
use Rattle.sm_asked_gateway.specs.GatewayWords.{GatewayAsked}

-- this is the gateway that is asked for
pub record IsGatewayMade (t : Told) (w : GatewayAsked) (g : GatewayData) : Type 0 where
  pub made : GatewayMade t w
  pub is : Path GatewayData g (gateway_of t w made)

-- it was made over these files and this store, whatever the input is, and the store refused no pattern
abbrev pub GatewayIsMade : FilesSeen → Test → StoreSeen → StoreSeen → GatewayAsked → GatewayData → Type 0
GatewayIsMade files test store store1 w g =
    (store1.refusals ≡ store.refusals)
    × ((input : Option (List ℕ)) → IsGatewayMade (told files.held input test store None) w g)

abbrev pub MakesGateway : FilesSeen → FilesSeen → Test → StoreSeen → StoreSeen → GatewayAsked → Result Gateway CommandStop → Type 0
MakesGateway files files1 test store store1 w (Ok made) = GatewayIsMade files test store store1 w (gateway_data made)
MakesGateway files files1 test store store1 w (Err stop) = StopsBefore (λ t a. GatewayAnswers t w a) files files1 test store store1 stop
