-- Which shapes are related to which, in a graph (Smithy 2.0, "Selectors", "Neighbors"). What a shape refers to is related to it
-- where the graph has it.
use Rattle.std.specs.Prelude.{◌≡◌, ◌⊎◌, ℕ, List, [], ◌∷◌, Option, Some, None, if◌then◌else◌, nat_eq, codes}
use Rattle.std.specs.Cmp.Lexicographic.{pointwise}
use Rattle.std.specs.List.{Contains}
use Rattle.std.specs.FinMap as fin
use Rattle.sm_tree.specs.Node.{Node, Nodes, Members, null, bool, int, number, text, bytes, tag, opaque, list, object, node, no_nodes}
use Rattle.sm_tree.specs.Node.{member, no_members}
use Rattle.sm_tree.specs.Same.{HasPair}
use Rattle.sm_model.specs.Graphs.{Entry, shape_entry, member_entry, ShapeEntry, GraphMaps}
use Rattle.sm_model.specs.declared.kind.Kind.{Kind}
use Rattle.sm_model.specs.declared.kind.Kind.TheVariants.{Blob, Boolean, Text as text_kind, Enum, Byte, Short, Integer, IntEnum, Long}
use Rattle.sm_model.specs.declared.kind.Kind.TheVariants.{Float, Double}
use Rattle.sm_model.specs.declared.kind.Kind.TheVariants.{BigInteger, BigDecimal, Timestamp, Document, List as list_kind, Map, Structure}
use Rattle.sm_model.specs.declared.kind.Kind.TheVariants.{Union}
use Rattle.sm_model.specs.declared.kind.Kind.TheVariants.{Service as service_kind, Operation as operation_kind, Resource as resource_kind}
use Rattle.sm_model.specs.declared.relation.Relation.{Relation}
use Rattle.sm_model.specs.declared.relation.Relation.TheVariants.{Member, Container, Target, Input, Output, Error, Operation, Resource}
use Rattle.sm_model.specs.declared.relation.Relation.TheVariants.{Identifier, Property}

-- the name of a relation, as selectors write it
abbrev pub relation_name : Relation → List ℕ
relation_name Member = codes "member"
relation_name Container = codes "container"
relation_name Target = codes "target"
relation_name Input = codes "input"
relation_name Output = codes "output"
relation_name Error = codes "error"
relation_name Operation = codes "operation"
relation_name Resource = codes "resource"
relation_name Identifier = codes "identifier"
relation_name Property = codes "property"

-- the fields of a type's body, and the relation that each says
abbrev pub RelationFields : Type 0
RelationFields = List (List ℕ × Relation)

abbrev pub operation_relations : RelationFields
operation_relations = (codes "input", Input) ∷ (codes "output", Output) ∷ (codes "errors", Error) ∷ []

abbrev pub service_relations : RelationFields
service_relations = (codes "operations", Operation) ∷ (codes "resources", Resource) ∷ (codes "errors", Error) ∷ []

abbrev pub resource_relations : RelationFields
resource_relations = (codes "identifiers", Identifier) ∷ (codes "properties", Property) ∷ (codes "create", Operation)
    ∷ (codes "put", Operation) ∷ (codes "read", Operation) ∷ (codes "update", Operation) ∷ (codes "delete", Operation)
    ∷ (codes "list", Operation) ∷ (codes "operations", Operation) ∷ (codes "collectionOperations", Operation)
    ∷ (codes "resources", Resource) ∷ []

abbrev pub field_relations : Kind → RelationFields
field_relations operation_kind = operation_relations
field_relations service_kind = service_relations
field_relations resource_kind = resource_relations
field_relations list_kind = []
field_relations Map = []
field_relations Structure = []
field_relations Union = []
field_relations Enum = []
field_relations IntEnum = []
field_relations Blob = []
field_relations Boolean = []
field_relations text_kind = []
field_relations Byte = []
field_relations Short = []
field_relations Integer = []
field_relations Long = []
field_relations Float = []
field_relations Double = []
field_relations BigInteger = []
field_relations BigDecimal = []
field_relations Timestamp = []
field_relations Document = []

-- the relation that the field of this name says
abbrev pub relation_under : List ℕ → RelationFields → Option Relation
relation_under name [] = None
relation_under name (f ∷ fs) = if pointwise nat_eq name f.0 then Some f.1 else relation_under name fs

-- the graph has this under the id
abbrev pub HasEntry : GraphMaps → List ℕ → Entry → Type 0
HasEntry g id e = fin.get g.shapes id ≡ Some e

abbrev pub IsInGraph : GraphMaps → List ℕ → Type 0
IsInGraph g id = (e : Entry) × HasEntry g id e

-- a field's value refers to an id: it is the id's text, or a list or an object that has this text
abbrev pub IsEntryText : List ℕ → Nodes → Type 0
IsEntryText id no_nodes = ⊥
IsEntryText id (node n ns) = (n ≡ text id) ⊎ IsEntryText id ns

abbrev pub IsValueText : List ℕ → Members → Type 0
IsValueText id no_members = ⊥
IsValueText id (member k n ms) = (n ≡ text id) ⊎ IsValueText id ms

abbrev pub Refers : List ℕ → Node → Type 0
Refers id (text t) = t ≡ id
Refers id (list ns) = IsEntryText id ns
Refers id (object ms) = IsValueText id ms
Refers id null = ⊥
Refers id (bool b) = ⊥
Refers id (int z) = ⊥
Refers id (number t) = ⊥
Refers id (bytes t) = ⊥
Refers id (tag k n) = ⊥
Refers id (opaque b) = ⊥

-- a pair of a body
abbrev pub HasBodyPair : List ℕ → Node → Node → Type 0
HasBodyPair k n (object ms) = HasPair k n ms
HasBodyPair k n (text t) = ⊥
HasBodyPair k n (list ns) = ⊥
HasBodyPair k n null = ⊥
HasBodyPair k n (bool b) = ⊥
HasBodyPair k n (int z) = ⊥
HasBodyPair k n (number t) = ⊥
HasBodyPair k n (bytes t) = ⊥
HasBodyPair k n (tag i m) = ⊥
HasBodyPair k n (opaque b) = ⊥

-- a field of a shape's body that says the relation refers to this id
abbrev pub SaysInBody : Relation → ShapeEntry → List ℕ → Type 0
SaysInBody relation s id =
    (name : List ℕ) × (value : Node) × HasBodyPair name value s.properties × (relation_under name (field_relations s.kind) ≡ Some relation)
    × Refers id value

-- a shape is related to an id by what it says
abbrev pub SaysRelated : Relation → Entry → List ℕ → Type 0
SaysRelated relation (shape_entry s) id = ((relation ≡ Member) × Contains s.members id) ⊎ SaysInBody relation s id
SaysRelated relation (member_entry m) id = (relation ≡ Target) × (m.target ≡ id)

-- a relation leads from one shape or member of the graph to another. From a member to its shape leads the converse of that from
-- a shape to its members
abbrev pub RefersBy : Relation → GraphMaps → List ℕ → List ℕ → Type 0
RefersBy relation g from to = (e : Entry) × HasEntry g from e × SaysRelated relation e to × IsInGraph g to

abbrev pub IsRelated : Relation → GraphMaps → List ℕ → List ℕ → Type 0
IsRelated Container g from to = RefersBy Member g to from
IsRelated Member g from to = RefersBy Member g from to
IsRelated Target g from to = RefersBy Target g from to
IsRelated Input g from to = RefersBy Input g from to
IsRelated Output g from to = RefersBy Output g from to
IsRelated Error g from to = RefersBy Error g from to
IsRelated Operation g from to = RefersBy Operation g from to
IsRelated Resource g from to = RefersBy Resource g from to
IsRelated Identifier g from to = RefersBy Identifier g from to
IsRelated Property g from to = RefersBy Property g from to

-- a relation that is followed where none is named: any but that from a member to its shape
abbrev pub IsNeighbor : GraphMaps → List ℕ → List ℕ → Type 0
IsNeighbor g from to = (relation : Relation) × (relation ≡ Container → ⊥) × IsRelated relation g from to

-- by one step or more, through these shapes
abbrev pub WalksBy : GraphMaps → List ℕ → List (List ℕ) → List ℕ → Type 0
WalksBy g from [] to = IsNeighbor g from to
WalksBy g from (next ∷ more) to = IsNeighbor g from next × WalksBy g next more to

abbrev pub Reaches : GraphMaps → List ℕ → List ℕ → Type 0
Reaches g from to = (between : List (List ℕ)) × WalksBy g from between to
