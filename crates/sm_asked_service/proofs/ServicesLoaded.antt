-- What loading a service comes to, from what its model files, its compiling and its defaults come to.
use Rattle.std.proofs.Common.{◌≡◌, ℕ, List, Option, Some, None, Ok, Err, ap, subst, ◌∙◌, refl, arith}
use Rattle.sm_io.specs.Causes.{Rose}
use Rattle.sm_io.specs.Seen.{FilesSeen}
use Rattle.sm_model.specs.GraphView.{maps_of}
use Rattle.sm_asked_shape.specs.load.declared.model.Model.{Model}
use Rattle.sm_shapes.specs.Fitting.{Test}
use Rattle.sm_compile.specs.Answers.{StoreSeen}
use Rattle.sm_service.specs.Answers.{IsServiceSeen}
use Rattle.sm_service.specs.ServiceData.{ServiceData}
use Rattle.sm_service.specs.ServiceView.{service_data}
use Rattle.sm_service.specs.declared.service.Service.{Service}
use Rattle.sm_asked_shape.specs.asked.Answer.{Answer}
use Rattle.sm_asked_shape.specs.asked.Loading.{Loaded, LoadAnswers, Loads}
use Rattle.sm_asked_shape.specs.asked.Stages.{told}
use Rattle.sm_asked_shape.specs.asked.declared.lines.Shown.TheVariants.{Errors}
use Rattle.sm_asked_shape.specs.asked.declared.stop.CommandStop.{CommandStop}
use Rattle.sm_asked_shape.proofs.asked.Answered.{none_is_some}
use Rattle.sm_asked_shape.proofs.asked.Stops.{stops_map}
use Rattle.sm_asked_service.specs.LoadsService.{StandsBefore, LoadsService}
use Rattle.sm_asked_service.specs.ServiceAnswers.{ServiceAnswers}
use Rattle.sm_asked_service.specs.ServiceAnswers.ServiceAnswers.{not_loaded, no_service, pattern}
use Rattle.sm_asked_service.specs.ServiceStages.{ServiceMade}
use Rattle.sm_asked_service.specs.steps.ServiceSteps.{IsFilledOf, ServiceSays, MakesService}
use Rattle.sm_asked_service.specs.steps.ServiceSteps.ServiceSays.{lacks, refuses}
use Rattle.sm_asked_service.proofs.ServicesMade.{is_there}

-- model files that aren't loaded
pub models_stop : (files files1 : FilesSeen) (test : Test) (store : StoreSeen) (names : List (List ℕ)) (service : List ℕ)
    (stop : CommandStop) → Loads Errors files files1 names (Err stop) → LoadsService files files1 test store store names service (Err stop)
models_stop files files1 test store names service stop h =
    stops_map (LoadAnswers Errors files.held names) (StandsBefore (λ t a. ServiceAnswers t names service a) files test store store)
    (Rose files.read_faults files1.read_faults) (Rose files.read_faults files1.read_faults × (store.refusals ≡ store.refusals)) (Unit {0})
    (Unit {0}) stop
    (λ a says. record { pattern = None; by = refl; only = λ u e. none_is_some u e; says = λ input. not_loaded says })
    (λ rose. (rose, refl)) (λ short. short) h

module _ (files files1 : FilesSeen) (test : Test) (store store1 : StoreSeen) (names : List (List ℕ)) (service : List ℕ) where
  -- a service that isn't compiled
  lacking : (loaded : Loaded files.held names) (a : Answer) → ServiceSays loaded.graph service store store1 a
      → StandsBefore (λ t a. ServiceAnswers t names service a) files test store store1 a
  lacking loaded a (lacks none count is) =
      record { pattern = None; by = count; only = λ u e. none_is_some u e; says = λ input. no_service loaded none is }
  lacking loaded a (refuses there id h is) = record {
    pattern = Some h.text;
    by = (rose, h.refused);
    only = λ u e. ap (λ (x : Answer). x.status) is;
    says = λ input. pattern (record { loaded = loaded; is = there }) h.text id refl h.carrier is;
  }
    where
      rose : Rose store.refusals store1.refusals
      rose = omega (arith, h.refusals)

  pub service_stopped : (m : Model) (stop : CommandStop) → Loads Errors files files1 names (Ok m)
      → MakesService (maps_of m.graph) service test store store1 (Err stop)
      → LoadsService files files1 test store store1 names service (Err stop)
  service_stopped m stop loads h =
      stops_map (ServiceSays (maps_of m.graph) service store store1) (StandsBefore (λ t a. ServiceAnswers t names service a) files test store store1) ⊥
      (Rose files.read_faults files1.read_faults × (store1.refusals ≡ store.refusals)) (Unit {0}) (Unit {0}) stop
      (λ a says. lacking loads.0 a (subst (λ g. ServiceSays g service store store1 a) loads.1 says)) (λ never. absurd never)
      (λ short. short) h

  -- a service, in a run that refuses no pattern
  abbrev made_of : (input : Option (List ℕ)) (loaded : Loaded files.held names) (now : StoreSeen) (one : ServiceData)
      → IsServiceSeen loaded.graph service test store now one → ServiceMade (told files.held input test store None) names service
  made_of input loaded now one h = record {
    there = record { loaded = loaded; is = is_there loaded.graph service test store now one h };
    now = now;
    one = one;
    compiled = h;
    free = λ u e among. none_is_some u e;
  }

  pub service_loaded : (m : Model) (now : StoreSeen) (one made : Service) → Loads Errors files files1 names (Ok m)
      → IsServiceSeen (maps_of m.graph) service test store now (service_data one) → store1.refusals ≡ now.refusals
      → IsFilledOf (service_data one) test (service_data made) → LoadsService files files1 test store store1 names service (Ok made)
  service_loaded m now one made loads h same fills =
      let seen : IsServiceSeen loads.0.graph service test store now (service_data one) =
      subst (λ g. IsServiceSeen g service test store now (service_data one)) loads.1 h in (
        same ∙ seen.refusals,
        λ input. record { made = made_of input loads.0 now (service_data one) seen; is = fills },
      )
