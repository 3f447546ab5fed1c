-- What a change owes, so that what it makes of a graph as merging makes them is such a graph again: that of the prelude stays as it is,
-- a shape keeps the form of its type, a member its shape and its value, and nothing grows.
use Rattle.std.proofs.Common.{◌≡◌, ◌≤◌, ℕ, true, false, List, map}
use Rattle.sm_ids.specs.IdText.{IsIdText, IsShapeId}
use Rattle.sm_ids.specs.TextParts.{member_id}
use Rattle.sm_tree.specs.Node.{Node}
use Rattle.sm_model.specs.Formed.{DifferInNames, HaveForm, StandsAmong}
use Rattle.sm_model.specs.Given.{HasShapeBody}
use Rattle.sm_model.specs.Graphs.{Entry, GraphMaps, MemberEntry, ShapeEntry, member_entry, shape_entry, traits_in}
use Rattle.sm_model.specs.Kinds.{member_form}
use Rattle.sm_model.specs.PreludeShapes.{is_prelude_id}
use Rattle.sm_model.specs.Relations.{HasEntry, IsInGraph}
use Rattle.sm_model.specs.declared.kind.Kind.{Kind}
use Rattle.sm_merge.specs.Limits.{members_in, shapes_in, traits_size}
use Rattle.sm_merge.specs.Merged.{IsOfPrelude, with_enum_value}
use Rattle.sm_merge.specs.Stated.{body_of}
use Rattle.sm_merge.proofs.GraphSound.{HoldsNamed}
use Rattle.sm_merge.proofs.RegularGraphs.{IsRegularShape}

-- what is left of a shape whose members have these names
pub record IsShapeKept (Stays : List ℕ → Type 0) (moved : List ℕ → List ℕ) (after : Entry → Entry) (id : List ℕ) (s : ShapeEntry)
    (names : List (List ℕ)) : Type 0 where
  pub now : ShapeEntry
  pub is : Path Entry (after (shape_entry s)) (shape_entry now)
  pub kind : now.kind ≡ s.kind
  pub left : List (List ℕ)
  pub differ : DifferInNames left
  pub members : now.members ≡ map (member_id (moved id)) left
  pub stay : (name : List ℕ) → StandsAmong name left → StandsAmong name names × Stays (member_id id name)
  pub all : (name : List ℕ) → StandsAmong name names → Stays (member_id id name) → StandsAmong name left
  pub form : HaveForm (member_form s.kind) names → HaveForm (member_form now.kind) left
  pub given : Node
  pub comes : now.properties ≡ body_of now.kind given
  pub body : HasShapeBody now.kind now.properties
  pub traits : HoldsNamed s.traits → HoldsNamed now.traits

-- and of a member
pub record IsMemberKept (after : Entry → Entry) (m : MemberEntry) : Type 0 where
  pub now : MemberEntry
  pub is : Path Entry (after (member_entry m)) (member_entry now)
  pub target : IsIdText m.target → IsIdText now.target
  pub traits : HoldsNamed m.traits → HoldsNamed now.traits
  pub valued : (kind : Kind) (name : List ℕ) → Path MemberEntry (with_enum_value kind name m) m
      → Path MemberEntry (with_enum_value kind name now) now

pub record IsNoLarger (e f : Entry) : Type 0 where
  pub shapes : shapes_in e ≤ shapes_in f
  pub members : members_in e ≤ members_in f
  pub traits : traits_size (traits_in e) ≤ traits_size (traits_in f)

pub record IsFaithful (g : GraphMaps) (Stays : List ℕ → Type 0) (moved : List ℕ → List ℕ) (after : Entry → Entry) : Type 0 where
  pub prelude : (id : List ℕ) (e : Entry) → IsOfPrelude id e → Stays id × Path Entry (after e) e
  pub kept_ids : (id : List ℕ) → is_prelude_id id ≡ true → moved id ≡ id
  pub own : (id : List ℕ) → IsInGraph g id → is_prelude_id id ≡ false → is_prelude_id (moved id) ≡ false
  pub ids : (id : List ℕ) → IsShapeId id → IsShapeId (moved id)
  pub members : (shape name : List ℕ) → IsShapeId shape → moved (member_id shape name) ≡ member_id (moved shape) name
  pub homes : (shape name : List ℕ) (s : ShapeEntry) → HasEntry g shape (shape_entry s) → IsShapeId shape
      → StandsAmong (member_id shape name) s.members → IsInGraph g (member_id shape name) → Stays (member_id shape name) → Stays shape
  pub shape : (id : List ℕ) (s : ShapeEntry) → HasEntry g id (shape_entry s) → Stays id → (r : IsRegularShape g id s)
      → IsShapeKept Stays moved after id s r.names
  pub member : (id : List ℕ) (m : MemberEntry) → HasEntry g id (member_entry m) → Stays id → IsMemberKept after m
  pub sizes : (id : List ℕ) (e : Entry) → HasEntry g id e → IsNoLarger (after e) e
