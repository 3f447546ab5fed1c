-- Laws of merging, each the contract of a function of the module `laws`.
use Rattle.std.specs.Prelude.{◌≡◌, ◌↔◌, ℕ, List, [], Result}
use Rattle.std.specs.List.{Contains}
use Rattle.sm_tree.specs.Node.{Node}
use Rattle.sm_model.specs.FormedGraph.{IsFormedGraph}
use Rattle.sm_model.specs.Said.{Said}
use Rattle.sm_model.specs.Graphs.{GraphMaps}
use Rattle.sm_model.specs.PreludeShapes.{prelude_graph}
use Rattle.sm_model.specs.EventView.{EventTold}
use Rattle.sm_model.specs.declared.graph.Graph.{Graph}
use Rattle.sm_merge.specs.Stated.{AreFormedFiles, Stated, all_said, apply_stated, stated_by}
use Rattle.sm_merge.specs.Values.{IsValueOf}
use Rattle.sm_merge.specs.Places.{metadata_values, shapes_under, trait_values}
use Rattle.sm_merge.specs.Mixins.{EffectiveShape, IsEffective}
use Rattle.sm_merge.specs.Merged.{IsGraphOf, IsStatedAgain, IsWrong, AreEventsOf}
use Rattle.sm_merge.specs.Limits.{IsWithinLimits}
use Rattle.sm_merge.specs.Answers.{MergesTo, StatementsComeTo}
use Rattle.sm_merge.specs.declared.refusal.MergeRefusal.{MergeRefusal}

-- values come to one
abbrev pub OneValue : Type 0
OneValue = (ns : List Node) (a b : Node) → IsValueOf ns a → IsValueOf ns b → a ≡ b

-- what a shape comes to with its mixins is one thing
abbrev pub OneEffectiveShape : Type 0
OneEffectiveShape = (ss : List Stated) (id : List ℕ) (m n : EffectiveShape) → IsEffective ss id m → IsEffective ss id n
    → Path EffectiveShape m n

-- statements have one graph
abbrev pub OneGraph : Type 0
OneGraph = (ss : List Stated) (g h : GraphMaps) → IsGraphOf ss g → IsGraphOf ss h → Path GraphMaps g h

-- and one list of events
abbrev pub OneListOfEvents : Type 0
OneListOfEvents = (ss : List Stated) (es fs : List EventTold) → AreEventsOf ss es → AreEventsOf ss fs → Path (List EventTold) es fs

-- the statements of files have a graph, and a list of events: it can't be that they have none
abbrev pub SomeGraph : Type 0
SomeGraph = (files : List (List Said)) → AreFormedFiles files → ((g : GraphMaps) → IsGraphOf (stated_by files) g → ⊥) → ⊥

abbrev pub SomeEvents : Type 0
SomeEvents = (files : List (List Said)) → ((es : List EventTold) → AreEventsOf (stated_by files) es → ⊥) → ⊥

-- a graph of theirs that is within the limits has the form of one
abbrev pub FormedGraphs : Type 0
FormedGraphs = (files : List (List Said)) → AreFormedFiles files → (g : GraphMaps) → IsGraphOf (stated_by files) g → IsWithinLimits g
    → IsFormedGraph g

-- the same statements in the same order, in one file or several, merge to the same
abbrev pub OneFileOrSeveral : Type 0
OneFileOrSeveral = (files more : List (List Said)) (answer : Result Graph MergeRefusal) → all_said files ≡ all_said more
    → MergesTo files answer → MergesTo more answer

-- traits are applied to a shape or member
abbrev pub IsApplied : List Stated → List ℕ → Type 0
IsApplied ss id = (traits : List (List ℕ × Node)) × Contains ss (apply_stated id traits)

-- statements in another order, but not those for one id, the values of one trait of one place, and those of one key
pub record SayTheSame (ss ts : List Stated) : Type 0 where
  pub shapes : (id : List ℕ) → shapes_under id ss ≡ shapes_under id ts
  pub values : (place name : List ℕ) → trait_values ss place name ≡ trait_values ts place name
  pub metadata : (key : List ℕ) → metadata_values ss key ≡ metadata_values ts key
  pub applied : (id : List ℕ) → IsApplied ss id ↔ IsApplied ts id
  pub again : (id : List ℕ) → IsStatedAgain ss id ↔ IsStatedAgain ts id

-- they come to the same
abbrev pub OtherOrder : Type 0
OtherOrder = (ss ts : List Stated) (answer : Result Graph MergeRefusal) → SayTheSame ss ts → StatementsComeTo ss answer
    → StatementsComeTo ts answer

-- no files merge to the prelude, which is within all limits
pub record NoFiles : Type 0 where
  pub graph : IsGraphOf (stated_by []) prelude_graph
  pub within : IsWithinLimits prelude_graph
  pub nothing_wrong : (e : EventTold) → IsWrong (stated_by []) e → ⊥
