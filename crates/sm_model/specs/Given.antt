-- From what shapes a graph is made: ids and names differ, and each shape has the members and the fields of its type. A target
-- and a reference may name no shape.
use Rattle.std.specs.Prelude.{◌≡◌, ◌<◌, ◌^◌, ℕ, List, [], ◌∷◌, map, length, Some}
use Rattle.sm_ids.specs.Identifier.{IsIdentifier}
use Rattle.sm_ids.specs.IdText.{IsIdText}
use Rattle.sm_tree.specs.Node.{Node, Nodes, Members, text, list, object, no_nodes, node, no_members, member}
use Rattle.sm_tree.specs.Same.{IsNode, HasName}
use Rattle.sm_model.specs.Kinds.{member_form}
use Rattle.sm_model.specs.Properties.{TypeFields, form_named, property_forms, needed_fields}
use Rattle.sm_model.specs.References.{IsShapeId}
use Rattle.sm_model.specs.Formed.{DifferInNames, HaveForm}
use Rattle.sm_model.specs.Graphs.{MemberGiven, ShapeGiven, given_entries}
use Rattle.sm_model.specs.declared.kind.Kind.{Kind}
use Rattle.sm_model.specs.declared.property.PropertyForm.{PropertyForm}
use Rattle.sm_model.specs.declared.property.PropertyForm.TheVariants.{Reference, References, NamedReferences, Text, Rename}

-- the text of an id, in place of a reference
abbrev pub IsIdNode : Node → Type 0
IsIdNode n = (t : List ℕ) × (n ≡ text t) × IsIdText t

abbrev pub AreIdNodes : Nodes → Type 0
AreIdNodes no_nodes = Unit {0}
AreIdNodes (node n ns) = IsIdNode n × AreIdNodes ns

abbrev pub AreNamedIds : Members → Type 0
AreNamedIds no_members = Unit {0}
AreNamedIds (member k n ms) = IsIdNode n × AreNamedIds ms

abbrev pub AreRenamed : Members → Type 0
AreRenamed no_members = Unit {0}
AreRenamed (member k n ms) = IsIdText k × ((t : List ℕ) × (n ≡ text t) × IsIdentifier t) × AreRenamed ms

abbrev pub NodeHasForm : PropertyForm → Node → Type 0
NodeHasForm Reference n = IsIdNode n
NodeHasForm References n = (ns : Nodes) × (n ≡ list ns) × AreIdNodes ns
NodeHasForm NamedReferences n = (ms : Members) × (n ≡ object ms) × AreNamedIds ms
NodeHasForm Text n = (t : List ℕ) × (n ≡ text t)
NodeHasForm Rename n = (ms : Members) × (n ≡ object ms) × AreRenamed ms

abbrev pub AreNodeFields : TypeFields → Members → Type 0
AreNodeFields fs no_members = Unit {0}
AreNodeFields fs (member k n ms) = ((form : PropertyForm) × (form_named k fs ≡ Some form) × NodeHasForm form n) × AreNodeFields fs ms

-- a field under each of the names
abbrev pub HaveNames : List (List ℕ) → Members → Type 0
HaveNames [] ms = Unit {0}
HaveNames (k ∷ []) ms = HasName k ms
HaveNames (k ∷ j ∷ ks) ms = HasName k ms × HaveNames (j ∷ ks) ms

-- as an operation has an input and an output
abbrev pub HasNeeded : Kind → Members → Type 0
HasNeeded kind ms = HaveNames (needed_fields kind) ms

-- the body of an operation, service or resource; every other type has an object without pairs
pub record HasShapeBody (kind : Kind) (n : Node) : Type 0 where
  pub pairs : Members
  pub is_object : n ≡ object pairs
  pub is_node : IsNode n
  pub fields : AreNodeFields (property_forms kind) pairs
  pub needed : HasNeeded kind pairs

-- under each name one node
abbrev pub AreNodes : List (List ℕ × Node) → Type 0
AreNodes [] = Unit {0}
AreNodes (m ∷ ms) = IsNode m.1 × AreNodes ms

abbrev pub are_under : List (List ℕ × Node) → List (List ℕ)
are_under ms = map (λ m. m.0) ms

pub record IsNodeMap (ms : List (List ℕ × Node)) : Type 0 where
  pub differ : DifferInNames (are_under ms)
  pub nodes : AreNodes ms

abbrev pub AreGivenMembers : List MemberGiven → Type 0
AreGivenMembers [] = Unit {0}
AreGivenMembers (m ∷ ms) = IsIdentifier m.name × IsIdText m.target × IsNodeMap m.traits × AreGivenMembers ms

abbrev pub given_names : List MemberGiven → List (List ℕ)
given_names ms = map (λ m. m.name) ms

pub record IsGivenShape (s : ShapeGiven) : Type 0 where
  pub id : IsShapeId s.id
  pub names : HaveForm (member_form s.kind) (given_names s.members)
  pub members : AreGivenMembers s.members
  pub body : HasShapeBody s.kind s.properties
  pub traits : IsNodeMap s.traits

abbrev pub AreGivenShapes : List ShapeGiven → Type 0
AreGivenShapes [] = Unit {0}
AreGivenShapes (s ∷ ss) = IsGivenShape s × AreGivenShapes ss

abbrev pub given_ids : List ShapeGiven → List (List ℕ)
given_ids ss = map (λ s. s.id) ss

-- what a graph may be made from
pub record AreGiven (shapes : List ShapeGiven) (metadata : List (List ℕ × Node)) : Type 0 where
  pub each : AreGivenShapes shapes
  pub differ : DifferInNames (given_ids shapes)
  pub few : length (given_entries shapes) < 2 ^ 32
  pub metadata_is : IsNodeMap metadata
