-- Laws over the definitions, each the contract of a function of the module `laws`.
use Rattle.std.specs.Prelude.{ℕ, List}
use Rattle.sm_ids.specs.Identifier.{IsNamespace}
use Rattle.sm_model.specs.FormedGraph.{IsFormedGraph}
use Rattle.sm_model.specs.Graphs.{Entry, GraphMaps}
use Rattle.sm_model.specs.Relations.{HasEntry, IsInGraph, SaysRelated}
use Rattle.sm_model.specs.declared.relation.Relation.{Relation}
use Rattle.sm_transform.specs.Changed.{Change, Changed, exclude, include, rename}
use Rattle.sm_transform.specs.Renamed.{HasTraitIds, IsRefused}

-- a change makes one graph
abbrev pub OneChanged : Type 0
OneChanged = (g h k : GraphMaps) (change : Change) → Changed g change h → Changed g change k → Path GraphMaps h k

-- a namespace gets the other name
abbrev pub IsGranted : GraphMaps → Change → Type 0
IsGranted g (include steps) = Unit {0}
IsGranted g (exclude steps) = Unit {0}
IsGranted g (rename from to) = IsRefused g from to → ⊥

-- and it can't be that it makes none, where the name isn't refused
abbrev pub SomeChanged : Type 0
SomeChanged = (g : GraphMaps) (change : Change) → IsFormedGraph g → IsGranted g change → ((h : GraphMaps) → Changed g change h → ⊥) → ⊥

-- each target and each reference names what the graph has, as in each graph that is accepted
abbrev pub NamesItself : GraphMaps → Type 0
NamesItself g = (relation : Relation) (id to : List ℕ) (e : Entry) → HasEntry g id e → SaysRelated relation e to → IsInGraph g to

-- a namespace that gets another name, and then its own again, leaves the graph as it was
abbrev pub RenamedBack : Type 0
RenamedBack = (g h k : GraphMaps) (from to : List ℕ) → IsFormedGraph g → NamesItself g → HasTraitIds g → IsNamespace from → IsNamespace to
    → (IsRefused g from to → ⊥) → Changed g (rename from to) h → Changed h (rename to from) k → Path GraphMaps k g
