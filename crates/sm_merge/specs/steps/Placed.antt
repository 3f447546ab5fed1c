-- What statements give, part by part: traits under the shapes and members at which they are given, metadata, shapes without
-- their traits, and what traits are applied to.
use Rattle.std.specs.Prelude.{◌≡◌, ℕ, List, [], ◌∷◌, ◌++◌, map}
use Rattle.std.specs.List.{flat_map}
use Rattle.sm_tree.specs.Node.{Node}
use Rattle.sm_tree.specs.Same.{IsNode}
use Rattle.sm_tree.specs.View.{members_view, node_of, pairs_view}
use Rattle.sm_tree.specs.declared.tree.Pairs.{Pairs}
use Rattle.sm_model.specs.Given.{AreNodes}
use Rattle.sm_model.specs.Graphs.{MemberGiven, member_id}
use Rattle.sm_model.specs.declared.kind.Kind.{Kind}
use Rattle.sm_merge.specs.Stated.{ShapeStated, Stated, apply_stated, metadata_stated, shape_stated}
use Rattle.sm_merge.specs.Places.{metadata_by, names_and_targets}
use Rattle.sm_merge.specs.declared.parts.BareShape.{BareShape}
use Rattle.sm_merge.specs.declared.parts.Parts.{Parts}

-- traits under shapes and members, one statement after the other
abbrev pub TraitLists : Type 0
TraitLists = List (List ℕ × List (List ℕ × Node))

abbrev pub placed_member : List ℕ → MemberGiven → List ℕ × List (List ℕ × Node)
placed_member shape m = (member_id shape m.name, m.traits)

abbrev pub placed_members : List ℕ → List MemberGiven → TraitLists
placed_members shape ms = map (placed_member shape) ms

abbrev pub placed_by : Stated → TraitLists
placed_by (metadata_stated key value) = []
placed_by (shape_stated s) = (s.shape.id, s.shape.traits) ∷ placed_members s.shape.id s.shape.members
placed_by (apply_stated id ts) = (id, ts) ∷ []

-- a shape without its traits
pub record Bare : Type 0 where
  pub id : List ℕ
  pub kind : Kind
  pub members : List (List ℕ × List ℕ)
  pub properties : Node
  pub mixins : List (List ℕ)

abbrev pub bare_of : ShapeStated → Bare
bare_of s = record {
  id = s.shape.id;
  kind = s.shape.kind;
  members = names_and_targets s.shape.members;
  properties = s.shape.properties;
  mixins = s.mixins;
}

abbrev pub bare_by : Stated → List (List ℕ × Bare)
bare_by (metadata_stated key value) = []
bare_by (shape_stated s) = (s.shape.id, bare_of s) ∷ []
bare_by (apply_stated id ts) = []

-- what traits are applied to
abbrev pub applied_by : Stated → List (List ℕ)
applied_by (metadata_stated key value) = []
applied_by (shape_stated s) = []
applied_by (apply_stated id ts) = id ∷ []

-- the parts in the code
abbrev pub placed_view : List (List ℕ × Pairs) → TraitLists
placed_view es = map (λ e. (e.0, pairs_view e.1)) es

abbrev pub bare_view : BareShape → Bare
bare_view s = record {
  id = s.id;
  kind = s.kind;
  members = s.members.items;
  properties = node_of s.properties;
  mixins = s.mixins.items;
}

abbrev pub bares_view : List (List ℕ × BareShape) → List (List ℕ × Bare)
bares_view es = map (λ e. (e.0, bare_view e.1)) es

pub record ArePartsOf (ss : List Stated) (p : Parts) : Type 0 where
  pub traits : placed_view p.traits.items ≡ flat_map placed_by ss
  pub metadata : members_view p.metadata.items ≡ flat_map metadata_by ss
  pub shapes : bares_view p.shapes.items ≡ flat_map bare_by ss
  pub applied : p.applied.items ≡ flat_map applied_by ss

-- with one more statement
pub record HasPut (s : Stated) (before after : Parts) : Type 0 where
  pub traits : placed_view after.traits.items ≡ placed_view before.traits.items ++ placed_by s
  pub metadata : members_view after.metadata.items ≡ members_view before.metadata.items ++ metadata_by s
  pub shapes : bares_view after.shapes.items ≡ bares_view before.shapes.items ++ bare_by s
  pub applied : after.applied.items ≡ before.applied.items ++ applied_by s

-- the values in statements are nodes
abbrev pub AreMembersOfNodes : List MemberGiven → Type 0
AreMembersOfNodes [] = Unit {0}
AreMembersOfNodes (m ∷ ms) = AreNodes m.traits × AreMembersOfNodes ms

abbrev pub IsOfNodes : Stated → Type 0
IsOfNodes (metadata_stated key value) = IsNode value
IsOfNodes (shape_stated s) = AreNodes s.shape.traits × AreMembersOfNodes s.shape.members × IsNode s.shape.properties
IsOfNodes (apply_stated id ts) = AreNodes ts

abbrev pub AreOfNodes : List Stated → Type 0
AreOfNodes [] = Unit {0}
AreOfNodes (s ∷ ss) = IsOfNodes s × AreOfNodes ss
