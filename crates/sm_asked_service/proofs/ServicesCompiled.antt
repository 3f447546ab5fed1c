-- What compiling a service that is named in a graph comes to: the service, or what is told in its place.
use Rattle.std.proofs.Common.{◌≡◌, ℕ, List, Ok, Err, sym, ap, subst, refl}
use Rattle.sm_model.specs.Graphs.{GraphMaps}
use Rattle.sm_shapes.specs.Fitting.{Test}
use Rattle.sm_compile.specs.Answers.{StoreSeen, IsPatternOfSetRefused}
use Rattle.sm_rules.specs.Ready.{IsOfService}
use Rattle.sm_rules.specs.Words.{IsService}
use Rattle.sm_service.specs.Answers.{CompilesService, IsServiceSeen}
use Rattle.sm_service.specs.ServiceView.{service_data}
use Rattle.sm_service.specs.declared.refusal.ServiceRefusal.TheVariants.{NoService, Pattern as is_pattern}
use Rattle.sm_service.specs.declared.service.Service.{Service}
use Rattle.sm_asked_shape.specs.asked.Comes.{EndsWithLine, EndsWithPattern}
use Rattle.sm_asked_shape.specs.asked.Lines.{pattern_line}
use Rattle.sm_asked_shape.specs.asked.declared.stop.CommandStop.{CommandStop}
use Rattle.sm_asked_shape.proofs.asked.Stops.{line_stops, pattern_stops}
use Rattle.sm_asked_service.specs.ServiceAnswers.{no_service_line}
use Rattle.sm_asked_service.specs.steps.ServiceSteps.{ServiceSays, MakesService}
use Rattle.sm_asked_service.specs.steps.ServiceSteps.ServiceSays.{lacks, refuses}

-- a service that isn't there
pub service_lacks : (g : GraphMaps) (service : List ℕ) (test : Test) (before now : StoreSeen) (stop : CommandStop)
    → (IsService g service → ⊥) → now.refusals ≡ before.refusals → EndsWithLine (no_service_line service) stop → MakesService g service test before now (Err stop)
service_lacks g service test before now stop none count ends =
    line_stops (ServiceSays g service before now) ⊥ (Unit {0}) (no_service_line service) stop (lacks none count refl) tt ends

-- by what compiling answers for the id as it is borrowed
module _ (g : GraphMaps) (id service : List ℕ) (test : Test) (before now : StoreSeen) (e : id ≡ service) where
  pub service_made : (made : Service) → CompilesService g service test before now (Ok made) → MakesService g id test before now (Ok made)
  service_made made h = subst (λ x. IsServiceSeen g x test before now (service_data made)) (sym e) h

  pub service_missing : (stop : CommandStop) → CompilesService g service test before now (Err NoService)
      → EndsWithLine (no_service_line id) stop → MakesService g id test before now (Err stop)
  service_missing stop h ends =
      service_lacks g id test before now stop (λ there. h.0 (subst (IsService g) e there)) (ap (λ (x : StoreSeen). x.refusals) h.1) ends

  pub service_refused : (carrier : List ℕ) (stop : CommandStop) → CompilesService g service test before now (Err (is_pattern carrier))
      → EndsWithPattern (pattern_line carrier) stop → MakesService g id test before now (Err stop)
  service_refused carrier stop h ends =
      pattern_stops (ServiceSays g id before now) ⊥ (Unit {0}) (pattern_line carrier) stop
      (refuses (subst (IsService g) (sym e) h.0) carrier
      (subst (λ x. IsPatternOfSetRefused g (IsOfService g x) before now carrier) (sym e) h.1) refl)
      tt ends
