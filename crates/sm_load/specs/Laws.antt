-- Laws over the definitions, each the contract of a function of the module `laws`.
use Rattle.std.specs.Prelude.{◌≡◌, ℕ, List, Result, Ok, Err}
use Rattle.sm_model.specs.EventView.{EventTold}
use Rattle.sm_model.specs.FormedGraph.{IsFormedGraph}
use Rattle.sm_model.specs.Graphs.{GraphMaps}
use Rattle.sm_rules.specs.Ready.{Ready}
use Rattle.sm_compile.specs.Sound.{Sound}
use Rattle.sm_model.specs.GraphView.{maps_of}
use Rattle.sm_model.specs.Said.{Said}
use Rattle.sm_model.specs.declared.event.ModelEvent.{ModelEvent}
use Rattle.sm_merge.specs.Stated.{AreFormedFiles}
use Rattle.sm_load.specs.Events.{AreEvents, AreModelEvents}
use Rattle.sm_load.specs.Loading.{AreAccepted, HasError, LoadsTo}
use Rattle.sm_load.specs.ModelFiles.{FileGiven, HaveStatements}
use Rattle.sm_load.specs.declared.model.LoadRefusal.{LoadRefusal}
use Rattle.sm_load.specs.declared.model.LoadRefusal.TheVariants.{NoMemory}
use Rattle.sm_load.specs.declared.model.Model.{Model}

-- a graph of the form of one in which no rule fails that rejects a model is sound for each shape, and ready for each service
abbrev pub SoundWithoutErrors : Type 0
SoundWithoutErrors = (g : GraphMaps) → IsFormedGraph g → (HasError g → ⊥) → (id : List ℕ) → Sound g id

abbrev pub ReadyWithoutErrors : Type 0
ReadyWithoutErrors = (g : GraphMaps) → IsFormedGraph g → (HasError g → ⊥) → (service : List ℕ) → Ready g service

-- a graph has one list of events
abbrev pub OneListOfRuleEvents : Type 0
OneListOfRuleEvents = (g : GraphMaps) (es fs : List EventTold) → AreEvents g es → AreEvents g fs → Path (List EventTold) es fs

-- and it can't be that it has none
abbrev pub SomeRuleEvents : Type 0
SomeRuleEvents = (g : GraphMaps) → ((es : List EventTold) → AreEvents g es → ⊥) → ⊥

-- what files say is formed as merging asks
abbrev pub FormedFiles : Type 0
FormedFiles = (files : List FileGiven) (said : List (List Said)) → HaveStatements files said → AreFormedFiles said

-- answers that say the same
abbrev pub SaySame : Result Model LoadRefusal → Result Model LoadRefusal → Type 0
SaySame (Ok m) (Ok n) = Path GraphMaps (maps_of m.graph) (maps_of n.graph) × (m.events ≡ n.events)
SaySame (Ok m) (Err refusal) = ⊥
SaySame (Err refusal) (Ok m) = ⊥
SaySame (Err refusal) (Err other) = refusal ≡ other

-- files have one answer: two, of which neither is out of memory, are one
abbrev pub OneLoad : Type 0
OneLoad =
    (files : List FileGiven) (r q : Result Model LoadRefusal) → LoadsTo files r → LoadsTo files q → (r ≡ Err NoMemory → ⊥)
    → (q ≡ Err NoMemory → ⊥) → SaySame r q

-- it can't be that files are neither accepted nor refused. So no gap in `LoadsTo` is left to `NoMemory`
abbrev pub SomeLoad : Type 0
SomeLoad =
    (files : List FileGiven) → ((refusal : LoadRefusal) → (refusal ≡ NoMemory → ⊥) → LoadsTo files (Err refusal) → ⊥)
    → ((g : GraphMaps) → AreAccepted files g → ⊥) → ⊥

-- nor that a graph has no events, each as grave as its rule
abbrev pub SomeModelEvents : Type 0
SomeModelEvents = (g : GraphMaps) → ((es : List ModelEvent) → AreModelEvents g es → ⊥) → ⊥

-- of each shape and of each service of a model that is accepted a table can be made
abbrev pub SoundModels : Type 0
SoundModels = (files : List FileGiven) (g : GraphMaps) → AreAccepted files g → (id : List ℕ) → Sound g id

abbrev pub ReadyModels : Type 0
ReadyModels = (files : List FileGiven) (g : GraphMaps) → AreAccepted files g → (service : List ℕ) → Ready g service
