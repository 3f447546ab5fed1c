-- What the steps of loading a service come to.
use Rattle.std.specs.Prelude.{◌≡◌, ℕ, List, Result, Ok, Err}
use Rattle.sm_model.specs.Graphs.{GraphMaps}
use Rattle.sm_shapes.specs.DefaultPuts.{HasNoDefault}
use Rattle.sm_shapes.specs.Fitting.{Test}
use Rattle.sm_shapes.specs.InOrder.{AreStored}
use Rattle.sm_codec.specs.Defaults.{filled}
use Rattle.sm_compile.specs.Answers.{StoreSeen, IsPatternOfSetRefused}
use Rattle.sm_rules.specs.Ready.{IsOfService}
use Rattle.sm_rules.specs.Words.{IsService}
use Rattle.sm_service.specs.Answers.{IsServiceSeen}
use Rattle.sm_service.specs.Filled.{over_table}
use Rattle.sm_service.specs.HttpServable.{HttpServable}
use Rattle.sm_service.specs.Servable.{Servable}
use Rattle.sm_service.specs.ServiceData.{ServiceData}
use Rattle.sm_service.specs.ServiceView.{service_data}
use Rattle.sm_service.specs.declared.service.Service.{Service}
use Rattle.sm_asked_shape.specs.asked.Answer.{Answer, refused, pattern_refused}
use Rattle.sm_asked_shape.specs.asked.Comes.{StepStops}
use Rattle.sm_asked_shape.specs.asked.Lines.{pattern_line}
use Rattle.sm_asked_shape.specs.asked.declared.stop.CommandStop.{CommandStop}
use Rattle.sm_asked_service.specs.ServiceAnswers.{no_service_line}

-- what a graph comes to for a service that isn't compiled, with what the store did
pub data ServiceSays (g : GraphMaps) (service : List ℕ) (before now : StoreSeen) (a : Answer) : Type 0 where
  lacks : (IsService g service → ⊥) → now.refusals ≡ before.refusals → a ≡ refused (no_service_line service)
      → ServiceSays g service before now a
  refuses : IsService g service → (id : List ℕ) → IsPatternOfSetRefused g (IsOfService g service) before now id
      → a ≡ pattern_refused (pattern_line id) → ServiceSays g service before now a

abbrev pub MakesService : GraphMaps → List ℕ → Test → StoreSeen → StoreSeen → Result Service CommandStop → Type 0
MakesService g service test before now (Ok made) = IsServiceSeen g service test before now (service_data made)
MakesService g service test before now (Err stop) = StepStops (ServiceSays g service before now) ⊥ (Unit {0}) stop

-- a service by which messages can be read, once its defaults are filled
pub record IsUnfilled (s : ServiceData) (added : List (List ℕ)) : Type 0 where
  pub servable : Servable s
  pub http_servable : HttpServable s
  pub none : HasNoDefault s.table
  pub stored : AreStored s.table.patterns added

-- the service with its defaults filled
abbrev pub IsFilledOf : ServiceData → Test → ServiceData → Type 0
IsFilledOf s test made = Path ServiceData made (over_table s (filled s.table test))
