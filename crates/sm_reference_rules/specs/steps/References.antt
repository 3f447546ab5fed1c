-- What is told of the ids that bodies refer to.
use Rattle.std.specs.Prelude.{◌≡◌, ℕ, List, Option, Some, None}
use Rattle.std.specs.FinMap as fin
use Rattle.sm_tree.specs.Node.{Node, text}
use Rattle.sm_tree.specs.View.{node_of}
use Rattle.sm_tree.specs.declared.tree.Tree.{Tree}
use Rattle.sm_model.specs.EventView.{EventTold}
use Rattle.sm_model.specs.Graphs.{Entry, shape_entry, member_entry, ShapeEntry, GraphMaps}
use Rattle.sm_model.specs.Relations.{HasBodyPair, Refers, SaysInBody, field_relations, relation_under}
use Rattle.sm_model.specs.declared.kind.Kind.{Kind}
use Rattle.sm_model.specs.declared.relation.Relation.{Relation}
use Rattle.sm_rules.specs.Words.{IsOwnShape}
use Rattle.sm_passes.specs.Owned.{own_kind}

-- what is told of an id, by a relation that leads to it
abbrev pub TellsOf : Type 1
TellsOf = Relation → List ℕ → EventTold → Type 0

-- of the bodies of shapes outside of the prelude
abbrev pub ToldByBodies : GraphMaps → (List ℕ → TellsOf) → EventTold → Type 0
ToldByBodies g Told e =
    (from : List ℕ) × (s : ShapeEntry) × IsOwnShape g from s
    × ((relation : Relation) × (id : List ℕ) × SaysInBody relation s id × Told from relation id e)

-- of the text that a node is
abbrev pub ToldText : (List ℕ → EventTold → Type 0) → Node → EventTold → Type 0
ToldText Told n e = (id : List ℕ) × (n ≡ text id) × Told id e

-- of each id that a value refers to
abbrev pub ToldIn : (List ℕ → EventTold → Type 0) → Node → EventTold → Type 0
ToldIn Told n e = (id : List ℕ) × Refers id n × Told id e

-- of a field that says this relation, or none
abbrev pub ToldField : TellsOf → Option Relation → Node → EventTold → Type 0
ToldField Told None n e = ⊥
ToldField Told (Some relation) n e = ToldIn (Told relation) n e

-- of a pair of the body of a shape of this type
abbrev pub ToldPair : TellsOf → Kind → List ℕ × Tree → EventTold → Type 0
ToldPair Told kind p e = ToldField Told (relation_under p.0 (field_relations kind)) (node_of p.1) e

-- the body of a shape; a member has none
abbrev pub body_in : Option Entry → Option Node
body_in None = None
body_in (Some (shape_entry s)) = Some s.properties
body_in (Some (member_entry m)) = None

-- of a body that may be there
abbrev pub ToldInBody : TellsOf → Kind → Option Node → EventTold → Type 0
ToldInBody Told kind body e =
    (n : Node) × (body ≡ Some n) × ((name : List ℕ) × (value : Node) × HasBodyPair name value n
    × ToldField Told (relation_under name (field_relations kind)) value e)

-- of the shape under an id
abbrev pub ToldOwnBody : GraphMaps → (List ℕ → TellsOf) → List ℕ → EventTold → Type 0
ToldOwnBody g Told from e =
    (kind : Kind) × (own_kind g from ≡ Some kind) × ToldInBody (Told from) kind (body_in (fin.get g.shapes from)) e
