-- What loading a service of model files comes to: the service, by which messages can be read and written, or what stands before it.
use Rattle.std.specs.Prelude.{◌≡◌, ℕ, List, Option, None, Some, Result, Ok, Err}
use Rattle.sm_io.specs.Causes.{Rose}
use Rattle.sm_io.specs.Seen.{FilesSeen}
use Rattle.sm_shapes.specs.Fitting.{Test}
use Rattle.sm_shapes.specs.InOrder.{AreStored, DefaultsPass}
use Rattle.sm_compile.specs.Answers.{StoreSeen}
use Rattle.sm_service.specs.HttpServable.{HttpServable}
use Rattle.sm_service.specs.Servable.{Servable}
use Rattle.sm_service.specs.ServiceData.{ServiceData}
use Rattle.sm_service.specs.ServiceView.{service_data}
use Rattle.sm_service.specs.declared.service.Service.{Service}
use Rattle.sm_asked_shape.specs.asked.Answer.{Answer}
use Rattle.sm_asked_shape.specs.asked.CommandAsked.{RefusedBy}
use Rattle.sm_asked_shape.specs.asked.Comes.{StepStops}
use Rattle.sm_asked_shape.specs.asked.Stages.{Told, told}
use Rattle.sm_asked_shape.specs.asked.declared.status.Status.TheVariants.{Pattern}
use Rattle.sm_asked_shape.specs.asked.declared.stop.CommandStop.{CommandStop}
use Rattle.sm_asked_service.specs.ServiceAnswers.{ServiceAnswers}
use Rattle.sm_asked_service.specs.ServiceStages.{ServiceMade, service_of}

-- messages of the service can be read and written over this store
pub record CanBeServed (s : ServiceData) (test : Test) (added : List (List ℕ)) : Type 0 where
  pub servable : Servable s
  pub http_servable : HttpServable s
  pub pass : DefaultsPass s.table test
  pub stored : AreStored s.table.patterns added

-- this is the service of the model files
pub record IsLoadedService (t : Told) (names : List (List ℕ)) (service : List ℕ) (s : ServiceData) : Type 0 where
  pub made : ServiceMade t names service
  pub is : Path ServiceData s (service_of t names service made)

-- whatever the input is, this is said. Where a pattern was refused, that is the answer
pub record StandsBefore (Says : Told → Answer → Type 0) (files : FilesSeen) (test : Test) (store store1 : StoreSeen) (a : Answer)
    : Type 0 where
  pub pattern : Option (List ℕ)
  pub by : RefusedBy store store1 pattern
  pub only : (u : List ℕ) → pattern ≡ Some u → a.status ≡ Pattern
  pub says : (input : Option (List ℕ)) → Says (told files.held input test store pattern) a

-- why a step ends that comes to a service, or to what is said in its place
abbrev pub StopsBefore : (Told → Answer → Type 0) → FilesSeen → FilesSeen → Test → StoreSeen → StoreSeen → CommandStop → Type 0
StopsBefore Says files files1 test store store1 stop =
    StepStops (StandsBefore Says files test store store1) (Rose files.read_faults files1.read_faults × (store1.refusals ≡ store.refusals))
    (Unit {0}) stop

abbrev pub LoadsService : FilesSeen → FilesSeen → Test → StoreSeen → StoreSeen → List (List ℕ) → List ℕ → Result Service CommandStop → Type 0
LoadsService files files1 test store store1 names service (Ok made) =
    (store1.refusals ≡ store.refusals)
    × ((input : Option (List ℕ)) → IsLoadedService (told files.held input test store None) names service (service_data made))
LoadsService files files1 test store store1 names service (Err stop) =
    StopsBefore (λ t a. ServiceAnswers t names service a) files files1 test store store1 stop
