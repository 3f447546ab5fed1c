-- What becomes of a shape and of its parts, as lists, where ids become others or are gone.
use Rattle.std.specs.Prelude.{◌≡◌, ◌<◌, ℕ, true, List, [], ◌∷◌, Option, Some, is_some, map}
use Rattle.std.specs.FinMap as fin
use Rattle.std.specs.List.{Contains, cons_option, filter_map}
use Rattle.std.specs.Option.{option_map}
use Rattle.sm_ids.specs.Identifier.{IsIdentifier}
use Rattle.sm_ids.specs.IdText.{IsIdText, IsShapeId}
use Rattle.sm_ids.specs.TextParts.{member_id, member_name}
use Rattle.sm_tree.specs.Node.{Node}
use Rattle.sm_model.specs.Formed.{DifferInNames, StandsAmong}
use Rattle.sm_model.specs.Given.{given_ids}
use Rattle.sm_model.specs.Graphs.{Entry, GraphMaps, MemberEntry, MemberGiven, ShapeEntry, ShapeGiven, member_entry, shape_entry, traits_in}
use Rattle.sm_model.specs.GraphView.{At, HasBodyNode, HasKind, HasMembers, IsShapeAt}
use Rattle.sm_model.specs.Properties.{form_named, property_forms}
use Rattle.sm_model.specs.Reaching.{id_of_number}
use Rattle.sm_model.specs.Relations.{HasEntry, IsInGraph}
use Rattle.sm_model.specs.declared.graph.Graph.{Graph}
use Rattle.sm_model.specs.declared.kind.Kind.{Kind}
use Rattle.sm_transform.specs.Excluded.{IsCollection}
use Rattle.sm_transform.specs.IdChanges.{IdChange, body_after, field_after, id_after, is_needed, reference_after, trait_after}
use Rattle.sm_transform.specs.Included.{CarriesTrait}
use Rattle.sm_transform.specs.Renamed.{IsRenameKey}

-- pairs: a reference under a name, and a field of a body
abbrev pub named_reference : IdChange → List ℕ × Node → Option (List ℕ × Node)
named_reference change p = option_map (λ n. (p.0, n)) (reference_after change p.1)

abbrev pub named_field : IdChange → Kind → List ℕ × Node → Option (List ℕ × Node)
named_field change kind p =
    option_map (λ n. (p.0, n)) (field_after change (is_needed kind p.0) (form_named p.0 (property_forms kind)) p.1)

-- what becomes of a member: it keeps its name
abbrev pub member_after : IdChange → List ℕ → MemberEntry → Option MemberGiven
member_after change id e =
    option_map (λ new. record {
      name = member_name id;
      target = id_after change e.target;
      traits = filter_map (trait_after change) (fin.entries e.traits);
    }) (change id)

abbrev pub IsMemberAfter : IdChange → Option MemberGiven → List ℕ → Entry → Type 0
IsMemberAfter change o id (shape_entry s) = ⊥
IsMemberAfter change o id (member_entry e) = o ≡ member_after change id e

-- what is left of the members at these numbers
abbrev pub AreMembersAfter : IdChange → Graph → List ℕ → List MemberGiven → Type 0
AreMembersAfter change g [] ms = ms ≡ []
AreMembersAfter change g (k ∷ ks) ms =
    (o : Option MemberGiven) × (rest : List MemberGiven) × At g k (λ id e. IsMemberAfter change o id e) × (ms ≡ cons_option o rest)
    × AreMembersAfter change g ks rest

-- what becomes of a shape
pub record IsShapeAfter (change : IdChange) (g : Graph) (number : ℕ) (s : ShapeGiven) : Type 0 where
  pub id : At g number (λ id e. s.id ≡ id_after change id)
  pub kind : At g number (λ id e. HasKind s.kind e)
  pub properties : Node
  pub body : At g number (λ id e. HasBodyNode properties e)
  pub body_is : s.properties ≡ body_after change s.kind properties
  pub traits : At g number (λ id e. filter_map (trait_after change) (fin.entries (traits_in e)) ≡ s.traits)
  pub numbers : List ℕ
  pub listed : At g number (λ id e. HasMembers (map (id_of_number g) numbers) e)
  pub members : AreMembersAfter change g numbers s.members

-- an id that isn't gone
abbrev pub IsLeft : IdChange → List ℕ → Type 0
IsLeft change id = is_some (change id) ≡ true

-- what becomes of the shapes at numbers below one
pub record AreShapesAfter (change : IdChange) (g : Graph) (bound : ℕ) (ss : List ShapeGiven) : Type 0 where
  pub each : (s : ShapeGiven) → Contains ss s
      → (k : ℕ) × (k < bound) × IsLeft change (id_of_number g k) × IsShapeAt g k × IsShapeAfter change g k s
  pub all : (k : ℕ) → k < bound → IsLeft change (id_of_number g k) → IsShapeAt g k
      → (s : ShapeGiven) × Contains ss s × IsShapeAfter change g k s
  pub differ : DifferInNames (given_ids ss)

-- what a change of ids owes, so that what it leaves of a graph is one
pub record IsSafeFor (g : GraphMaps) (change : IdChange) : Type 0 where
  -- ids become ids, and ids of shapes such
  pub ids : (id new : List ℕ) → IsIdText id → change id ≡ Some new → IsIdText new
  pub shapes : (id : List ℕ) → IsShapeId id → IsShapeId (id_after change id)
  -- that of a member goes with that of its shape
  pub members : (shape name new : List ℕ) → IsShapeId shape → IsIdentifier name → change (member_id shape name) ≡ Some new
      → new ≡ member_id (id_after change shape) name
  pub homes : (shape name : List ℕ) (s : ShapeEntry) → IsShapeId shape → HasEntry g shape (shape_entry s)
      → StandsAmong (member_id shape name) s.members → IsLeft change (member_id shape name) → IsLeft change shape
  -- a list or a map keeps its members
  pub whole : (id member : List ℕ) (s : ShapeEntry) → HasEntry g id (shape_entry s) → IsCollection g id → IsLeft change id
      → StandsAmong member s.members → IsLeft change member
  -- ids that differ stay so: those of shapes, of one's traits, and keys of `rename`
  pub apart : (a b : List ℕ) → IsInGraph g a → IsInGraph g b → id_after change a ≡ id_after change b → a ≡ b
  pub traits_apart : (id a b new : List ℕ) → CarriesTrait g id a → CarriesTrait g id b → change a ≡ Some new → change b ≡ Some new → a ≡ b
  pub keys_apart : (a b new : List ℕ) → IsRenameKey g a → IsRenameKey g b → change a ≡ Some new → change b ≡ Some new → a ≡ b
