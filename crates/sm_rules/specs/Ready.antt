-- Of which services a table can be made: at the service and at all that it leads to no rule fails that rejects a model. Left aside
-- are those on ids without case, on finite values, on defaults, and what concerns traits that a model defines. A graph in which no
-- rule fails is ready for each of its services.
use Rattle.std.specs.Prelude.{◌≡◌, ◌⊎◌, ℕ, List}
use Rattle.sm_model.specs.FormedGraph.{IsFormedGraph}
use Rattle.sm_model.specs.Graphs.{GraphMaps}
use Rattle.sm_compile.specs.Compiled.{IdSet}
use Rattle.sm_rules.specs.Words.{IsService, IsInClosure}
use Rattle.sm_rules.specs.Names.{RepeatsName}
use Rattle.sm_rules.specs.Targets.{RefersToNothing, RefersToOther}
use Rattle.sm_rules.specs.Traits.{HasOtherValue, StandsElsewhere, HasExclusiveTraits, CarriesTwice}
use Rattle.sm_rules.specs.Constraints.{HasWrongEnum, HasWrongBounds}
use Rattle.sm_rules.specs.Services.{HasWrongNames}
use Rattle.sm_rules.specs.Http.{HasNoUri, HasWrongLabel, IsBoundWrongly, HasSameRoute, HasWrongStatusCode}
use Rattle.sm_rules.specs.WireNames.{HasWireNameAgain}

-- the service, and all to which references, members and targets lead from it
abbrev pub IsOfService : GraphMaps → List ℕ → List ℕ → Type 0
IsOfService g service id = (id ≡ service) ⊎ IsInClosure g service id

-- a rule: of a graph, what is wrong with a shape or member, with its detail
abbrev pub RuleOn : Type 1
RuleOn = GraphMaps → List ℕ → List ℕ → Type 0

-- it fails at no shape and at no member of a set
abbrev pub FailsNowhereIn : GraphMaps → IdSet → RuleOn → Type 0
FailsNowhereIn g In Fails = (id detail : List ℕ) → In id → Fails g id detail → ⊥

-- none of these rules fails there. Values, places and conflicts of traits are those of the table: of what a model's own traits say nothing
-- is asked
pub record NoneFailsIn (g : GraphMaps) (In : IdSet) : Type 0 where
  pub member_names : FailsNowhereIn g In RepeatsName
  pub missing : FailsNowhereIn g In RefersToNothing
  pub kinds : FailsNowhereIn g In RefersToOther
  pub values : FailsNowhereIn g In HasOtherValue
  pub places : FailsNowhereIn g In StandsElsewhere
  pub exclusive : FailsNowhereIn g In HasExclusiveTraits
  pub single : FailsNowhereIn g In CarriesTwice
  pub enums : FailsNowhereIn g In HasWrongEnum
  pub bounds : FailsNowhereIn g In HasWrongBounds
  pub names : FailsNowhereIn g In HasWrongNames
  pub uris : FailsNowhereIn g In HasNoUri
  pub labels : FailsNowhereIn g In HasWrongLabel
  pub parts : FailsNowhereIn g In IsBoundWrongly
  pub wire_names : FailsNowhereIn g In HasWireNameAgain
  pub routes : FailsNowhereIn g In HasSameRoute
  pub numbers : FailsNowhereIn g In HasWrongStatusCode

-- a graph of the form of one, in which none fails at the service or at what it leads to
pub record IsReady (g : GraphMaps) (service : List ℕ) : Type 0 where
  pub formed : IsFormedGraph g
  pub none : NoneFailsIn g (IsOfService g service)

-- nothing is asked of an id that is no service's
abbrev pub Ready : GraphMaps → List ℕ → Type 0
Ready g service = IsService g service → IsReady g service
