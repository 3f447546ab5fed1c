-- What holds of a graph in which no rule fails: a table can be made of each shape, and of each service. Of a service of which one can be
-- made, one can be made of each shape that is of it. Each law is the contract of a function of the module `laws`.
use Rattle.std.specs.Prelude.{ℕ, List}
use Rattle.sm_model.specs.FormedGraph.{IsFormedGraph}
use Rattle.sm_model.specs.Graphs.{GraphMaps}
use Rattle.sm_rules.specs.Ready.{IsOfService, Ready}
use Rattle.sm_rules.specs.Words.{IsService}
use Rattle.sm_compile.specs.Sound.{Sound}
use Rattle.sm_accepted.specs.NoneFails.{NoneFails}

-- each shape is sound
abbrev pub SoundWhereNoneFails : Type 0
SoundWhereNoneFails = (g : GraphMaps) → IsFormedGraph g → NoneFails g → (id : List ℕ) → Sound g id

-- each service is ready
abbrev pub ReadyWhereNoneFails : Type 0
ReadyWhereNoneFails = (g : GraphMaps) → IsFormedGraph g → NoneFails g → (service : List ℕ) → Ready g service

-- each shape of a service that is ready is sound
abbrev pub SoundWhereReady : Type 0
SoundWhereReady = (g : GraphMaps) (service : List ℕ) → IsService g service → Ready g service → (id : List ℕ) → IsOfService g service id
    → Sound g id
