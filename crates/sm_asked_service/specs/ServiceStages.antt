-- How far a command over a service of a model has come, over bytes alone: behind the graph of its model files a service of this id; and
-- what it is compiled to, with what a store of patterns did for it.
use Rattle.std.specs.Prelude.{◌≡◌, ℕ, List, Contains, Some}
use Rattle.sm_compile.specs.Answers.{StoreSeen}
use Rattle.sm_compile.specs.Compiled.{texts_of}
use Rattle.sm_codec.specs.Defaults.{filled}
use Rattle.sm_rules.specs.Words.{IsService}
use Rattle.sm_service.specs.Answers.{IsServiceSeen}
use Rattle.sm_service.specs.Filled.{over_table}
use Rattle.sm_service.specs.ServiceData.{ServiceData}
use Rattle.sm_asked_shape.specs.asked.Loading.{Loaded}
use Rattle.sm_asked_shape.specs.asked.Stages.{Told}

-- the model files come to a graph, which has a service of this id
pub record ServiceThere (t : Told) (names : List (List ℕ)) (service : List ℕ) : Type 0 where
  pub loaded : Loaded t.files names
  pub is : IsService loaded.graph service

-- it is compiled over the store as it was, of whose patterns the store refuses none
pub record ServiceMade (t : Told) (names : List (List ℕ)) (service : List ℕ) : Type 0 where
  pub there : ServiceThere t names service
  pub now : StoreSeen
  pub one : ServiceData
  pub compiled : IsServiceSeen there.loaded.graph service t.test t.store now one
  pub free : (u : List ℕ) → t.refused ≡ Some u → Contains (texts_of one.table.patterns) u → ⊥

-- the service that counts: with the defaults that count
abbrev pub service_of : (t : Told) (names : List (List ℕ)) (service : List ℕ) → ServiceMade t names service → ServiceData
service_of t names service h = over_table h.one (filled h.one.table t.test)
