-- What stands before a gateway, by its status; and a gateway that the words ask for.
use Rattle.std.proofs.Common.{ℕ, List, refl}
use Rattle.sm_io.specs.Seen.{FilesSeen}
use Rattle.sm_shapes.specs.Fitting.{Test}
use Rattle.sm_compile.specs.Answers.{StoreSeen}
use Rattle.sm_asked_gateway.specs.asked.Answer.{past, pattern_refused, refused}
use Rattle.sm_asked_gateway.specs.asked.declared.stop.CommandStop.{CommandStop}
use Rattle.sm_asked_gateway.specs.asked.declared.stop.CommandStop.TheVariants.{Limit, NoMemory, Pattern, ReadFault, Refused}
use Rattle.sm_asked_gateway.specs.asked_service.LoadsService.{StopsBefore}
use Rattle.sm_asked_gateway.specs.GatewayAnswers.{GatewayAnswers}
use Rattle.sm_serve.specs.ServeWords.{IsServeForm, ServeAsked}
use Rattle.sm_serve.specs.Starts.{StopsSo}
use Rattle.sm_serve.specs.steps.StopStatuses.{stop_status}

module _ (words : List (List ℕ)) (files files1 : FilesSeen) (test : Test) (store store1 : StoreSeen) (w : ServeAsked)
    (form : IsServeForm words w) where
  pub stops_so : (stop : CommandStop) → StopsBefore (λ t a. GatewayAnswers t w.gateway a) files files1 test store store1 stop
      → StopsSo words files files1 test store store1 (stop_status stop)
  stops_so (Refused line) h = (w, form, (refused line.items, refl, h))
  stops_so (Pattern line) h = (w, form, (pattern_refused line.items, refl, h))
  stops_so (Limit line) h = (w, form, (past line.items, refl, h))
  stops_so ReadFault h = (w, form, h)
  stops_so NoMemory h = (w, form, tt)
