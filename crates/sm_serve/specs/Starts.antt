-- What `start` comes to: the gateway that the words ask for, or the status of what stands before it. Nothing is printed.
use Rattle.std.specs.Prelude.{◌≡◌, ℕ, List, Result, Ok, Err}
use Rattle.sm_io.specs.Causes.{Rose}
use Rattle.sm_io.specs.Seen.{FilesSeen}
use Rattle.sm_shapes.specs.Fitting.{Test}
use Rattle.sm_compile.specs.Answers.{StoreSeen}
use Rattle.sm_asked_gateway.specs.asked.Answer.{Answer, code_of}
use Rattle.sm_asked_gateway.specs.asked.declared.status.Status.{Status}
use Rattle.sm_asked_gateway.specs.asked.declared.status.Status.TheVariants.{Done, Refused, Usage, ReadFault, WriteFault, NoMemory, Pattern, Limit}
use Rattle.sm_asked_gateway.specs.asked_service.LoadsService.{StandsBefore}
use Rattle.sm_asked_gateway.specs.gateway.GatewayView.{gateway_data}
use Rattle.sm_asked_gateway.specs.gateway.declared.gateway.Gateway.{Gateway}
use Rattle.sm_asked_gateway.specs.GatewayAnswers.{GatewayAnswers}
use Rattle.sm_asked_gateway.specs.MakesGateway.{GatewayIsMade}
use Rattle.sm_serve.specs.ServeWords.{IsServeForm, ServeAsked}

-- the words have the form, and this holds of what they ask for
abbrev pub ForServe : List (List ℕ) → (ServeAsked → Type 0) → Type 0
ForServe words P = (w : ServeAsked) × IsServeForm words w × P w

-- they haven't the form
abbrev pub IsNoServe : List (List ℕ) → Type 0
IsNoServe words = (w : ServeAsked) → IsServeForm words w → ⊥

-- an answer of this status stands before the gateway: the one that `cross` gives to the same models, service and protocols
abbrev pub StopsAt : Status → FilesSeen → Test → StoreSeen → StoreSeen → ServeAsked → Type 0
StopsAt status files test store store1 w =
    (a : Answer) × (a.status ≡ status) × StandsBefore (λ t answer. GatewayAnswers t w.gateway answer) files test store store1 a

-- by the status. Running out of memory may always come
abbrev pub StopsSo : List (List ℕ) → FilesSeen → FilesSeen → Test → StoreSeen → StoreSeen → Status → Type 0
StopsSo words files files1 test store store1 Done = ⊥
StopsSo words files files1 test store store1 Refused = ForServe words (StopsAt Refused files test store store1)
StopsSo words files files1 test store store1 Usage = IsNoServe words × Path StoreSeen store1 store
StopsSo words files files1 test store store1 ReadFault =
    ForServe words (λ w. Rose files.read_faults files1.read_faults × (store1.refusals ≡ store.refusals))
StopsSo words files files1 test store store1 WriteFault = ⊥
StopsSo words files files1 test store store1 NoMemory = ForServe words (λ w. Unit {0})
StopsSo words files files1 test store store1 Pattern = ForServe words (StopsAt Pattern files test store store1)
StopsSo words files files1 test store store1 Limit = ForServe words (StopsAt Limit files test store store1)

-- the number is that of a status by which there is no gateway
abbrev pub Stops : List (List ℕ) → FilesSeen → FilesSeen → Test → StoreSeen → StoreSeen → ℕ → Type 0
Stops words files files1 test store store1 code =
    (status : Status) × (code ≡ code_of status) × StopsSo words files files1 test store store1 status

abbrev pub Starts : List (List ℕ) → FilesSeen → FilesSeen → Test → StoreSeen → StoreSeen → Result Gateway ℕ → Type 0
Starts words files files1 test store store1 (Ok made) =
    ForServe words (λ w. GatewayIsMade files test store store1 w.gateway (gateway_data made))
Starts words files files1 test store store1 (Err code) = Stops words files files1 test store store1 code
