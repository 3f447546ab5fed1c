-- What compiling a service answers.
use Rattle.std.specs.Prelude.{◌≡◌, ◌++◌, ℕ, List, length, Result, Ok, Err}
use Rattle.sm_model.specs.Graphs.{GraphMaps}
use Rattle.sm_rules.specs.Ready.{IsOfService}
use Rattle.sm_rules.specs.Words.{IsService}
use Rattle.sm_shapes.specs.DefaultPuts.{HasNoDefault}
use Rattle.sm_shapes.specs.Fitting.{Test}
use Rattle.sm_shapes.specs.InOrder.{Built}
use Rattle.sm_compile.specs.Answers.{IsLeftBehind, IsPatternOfSetRefused, StoreSeen}
use Rattle.sm_compile.specs.Compiled.{AreNumberedFrom, texts_of}
use Rattle.sm_service.specs.Compiled.{IsServiceOf}
use Rattle.sm_service.specs.HttpServable.{HttpServable}
use Rattle.sm_service.specs.Servable.{Servable}
use Rattle.sm_service.specs.ServiceData.{ServiceData}
use Rattle.sm_service.specs.ServiceView.{service_data}
use Rattle.sm_service.specs.declared.refusal.ServiceRefusal.{ServiceRefusal}
use Rattle.sm_service.specs.declared.refusal.ServiceRefusal.TheVariants.{NoService, Pattern, NoMemory}
use Rattle.sm_service.specs.declared.service.Service.{Service}

-- the service with this id, and the store has its patterns behind those that it had
pub record IsServiceSeen (g : GraphMaps) (id : List ℕ) (test : Test) (before now : StoreSeen) (service : ServiceData) : Type 0 where
  pub of_graph : IsServiceOf g id service
  pub numbered : AreNumberedFrom (length before.added) service.table.patterns
  pub servable : Servable service
  pub http_servable : HttpServable service
  pub built : Built service.table now.added test
  pub no_default : HasNoDefault service.table
  pub added : now.added ≡ before.added ++ texts_of service.table.patterns
  pub refused : now.refused ≡ before.refused
  pub refusals : now.refusals ≡ before.refusals

-- where a pattern is refused, the service leads to a shape or a member that carries it: told is the least such id. Where memory runs out,
-- the store may keep patterns
abbrev pub CompilesService : GraphMaps → List ℕ → Test → StoreSeen → StoreSeen → Result Service ServiceRefusal → Type 0
CompilesService g id test before now (Ok service) = IsServiceSeen g id test before now (service_data service)
CompilesService g id test before now (Err NoService) = (IsService g id → ⊥) × Path StoreSeen now before
CompilesService g id test before now (Err (Pattern carrier)) =
    IsService g id × IsPatternOfSetRefused g (IsOfService g id) before now carrier
CompilesService g id test before now (Err NoMemory) = IsLeftBehind before now
