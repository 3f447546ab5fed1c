-- A graph as data, without memory: a finite map from ids to shapes and members, and a finite map of metadata (Smithy 2.0,
-- "The Smithy model"). Ids are in the order of the bytes of their texts, so a shape stands before its members.
use Rattle.std.specs.Prelude.{ℕ, List, [], ◌∷◌, ◌++◌, map}
use Rattle.std.specs.FinMap as fin
use Rattle.std.specs.Ordering.{nat_cmp}
use Rattle.std.specs.Cmp.Lexicographic.{slice_cmp}
use Rattle.std.specs.declared.cmp.Ordering.{Ordering}
pub use Rattle.sm_ids.specs.TextParts.{member_id}
use Rattle.sm_tree.specs.Node.{Node}
use Rattle.sm_model.specs.declared.kind.Kind.{Kind}

-- the order of texts by their bytes
abbrev pub text_cmp : List ℕ → List ℕ → Ordering
text_cmp = slice_cmp nat_cmp

-- nodes under texts: traits by their ids, metadata by its keys
abbrev pub NodeMap : Type 0
NodeMap = fin.FinMap text_cmp Node

-- a shape: its type, the ids of its members in model order, the body of an operation, service or resource, its traits
pub record ShapeEntry : Type 0 where
  pub kind : Kind
  pub members : List (List ℕ)
  pub properties : Node
  pub traits : NodeMap

-- a member: the id that it targets, and its traits
pub record MemberEntry : Type 0 where
  pub target : List ℕ
  pub traits : NodeMap

-- what stands under an id
pub data Entry : Type 0 where
  shape_entry : ShapeEntry → Entry
  member_entry : MemberEntry → Entry

abbrev pub ShapeMap : Type 0
ShapeMap = fin.FinMap text_cmp Entry

-- the two maps
pub record GraphMaps : Type 0 where
  pub shapes : ShapeMap
  pub metadata : NodeMap

-- the traits of what stands under an id
abbrev pub traits_in : Entry → NodeMap
traits_in (shape_entry s) = s.traits
traits_in (member_entry m) = m.traits

-- what a graph is made from: shapes with their members, in any order
pub record MemberGiven : Type 0 where
  pub name : List ℕ
  pub target : List ℕ
  pub traits : List (List ℕ × Node)

pub record ShapeGiven : Type 0 where
  pub id : List ℕ
  pub kind : Kind
  pub members : List MemberGiven
  pub properties : Node
  pub traits : List (List ℕ × Node)

-- a member and members of a shape, by their ids
abbrev pub given_member : List ℕ → MemberGiven → List ℕ × Entry
given_member shape m = (member_id shape m.name, member_entry (record { target = m.target; traits = fin.from_entries m.traits }))

abbrev pub given_members : List ℕ → List MemberGiven → List (List ℕ × Entry)
given_members shape ms = map (given_member shape) ms

-- a shape and its members, by their ids
abbrev pub given_shape : ShapeGiven → List (List ℕ × Entry)
given_shape s = (
  s.id,
  shape_entry (record {
    kind = s.kind;
    members = map (λ m. member_id s.id m.name) s.members;
    properties = s.properties;
    traits = fin.from_entries s.traits;
  }),
) ∷ given_members s.id s.members

abbrev pub given_entries : List ShapeGiven → List (List ℕ × Entry)
given_entries [] = []
given_entries (s ∷ ss) = given_shape s ++ given_entries ss

-- the graph of these shapes and this metadata
abbrev pub graph_of : List ShapeGiven → List (List ℕ × Node) → GraphMaps
graph_of shapes metadata = record { shapes = fin.from_entries (given_entries shapes); metadata = fin.from_entries metadata }
