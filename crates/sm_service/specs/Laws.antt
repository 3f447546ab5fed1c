-- Laws of services, each the contract of a function of the module `laws`.
use Rattle.std.specs.Prelude.{ℕ, List}
use Rattle.sm_model.specs.FormedGraph.{IsFormedGraph}
use Rattle.sm_model.specs.Graphs.{GraphMaps}
use Rattle.sm_shapes.specs.Fitting.{Test}
use Rattle.sm_shapes.specs.InOrder.{Shaped}
use Rattle.sm_codec.specs.Defaults.{filled}
use Rattle.sm_compile.specs.Answers.{StoreSeen}
use Rattle.sm_compile.specs.Laws.{IsSpelledGraph}
use Rattle.sm_accepted.specs.NoneFails.{NoneFails}
use Rattle.sm_rules.specs.Ready.{Ready}
use Rattle.sm_rules.specs.Words.{IsService}
use Rattle.sm_service.specs.Answers.{IsServiceSeen}
use Rattle.sm_service.specs.Compiled.{IsServiceOf}
use Rattle.sm_service.specs.Filled.{over_table}
use Rattle.sm_service.specs.HttpServable.{HttpServable}
use Rattle.sm_service.specs.Servable.{Servable}
use Rattle.sm_service.specs.ServiceData.{ServiceData}

-- what is ready is servable once it is compiled: what its rules deny is all that is asked
abbrev pub ServableWhereReady : Type 0
ServableWhereReady = (g : GraphMaps) (id : List ℕ) (service : ServiceData) → Ready g id → IsServiceOf g id service → Shaped service.table
    → Servable service

abbrev pub HttpServableWhereReady : Type 0
HttpServableWhereReady = (g : GraphMaps) (id : List ℕ) (service : ServiceData) → Ready g id → IsServiceOf g id service
    → Shaped service.table → HttpServable service

-- and stays so with its defaults: they change no shape, no name and no binding
pub record StaysServable : Type 0 where
  pub stays : (s : ServiceData) (test : Test) → Servable s → Shaped (filled s.table test) → Servable (over_table s (filled s.table test))
  pub http_stays : (s : ServiceData) (test : Test) → HttpServable s → HttpServable (over_table s (filled s.table test))

-- an id of a graph has one service over a store, and the store is left in one state
abbrev pub OneService : Type 0
OneService = (g : GraphMaps) (id : List ℕ) (test : Test) (before now later : StoreSeen) (one other : ServiceData) → Ready g id
    → IsServiceSeen g id test before now one → IsServiceSeen g id test before later other
    → Path ServiceData one other × Path StoreSeen now later

-- and a service that is ready has one over each store: it can't be that it has none
abbrev pub SomeService : Type 0
SomeService = (g : GraphMaps) (id : List ℕ) (test : Test) (before : StoreSeen) → IsSpelledGraph g → IsService g id → Ready g id
    → ((now : StoreSeen) (one : ServiceData) → IsServiceSeen g id test before now one → ⊥) → ⊥

-- so has each service of a graph in which no rule fails
abbrev pub ServiceWhereNoneFails : Type 0
ServiceWhereNoneFails = (g : GraphMaps) (id : List ℕ) (test : Test) (before : StoreSeen) → IsFormedGraph g → IsSpelledGraph g → NoneFails g
    → IsService g id → ((now : StoreSeen) (one : ServiceData) → IsServiceSeen g id test before now one → ⊥) → ⊥
