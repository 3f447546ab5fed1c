-- The one graph that the statements of files come to, and what is wrong with them (Smithy 2.0, "Merging models", "Mixins",
-- "apply statement"). The graph is a graph whatever is wrong: what is wrong contributes nothing, or the first stays.
use Rattle.std.specs.Prelude.{◌≡◌, ◌⊎◌, ◌&&◌, ◌↔◌, ℕ, Bool, not, List, [], map, Some, IsTrue, if◌then◌else◌, is_some, codes}
use Rattle.std.specs.List.{Contains}
use Rattle.std.specs.FinMap as fin
use Rattle.std.specs.Str.{bytes_eq}
use Rattle.sm_tree.specs.Node.{Node, text}
use Rattle.sm_model.specs.Kinds.{kind_name}
use Rattle.sm_model.specs.Graphs.{text_cmp, Entry, shape_entry, member_entry, MemberEntry, GraphMaps, member_id}
use Rattle.sm_model.specs.PreludeShapes.{api_id, unit_id, is_prelude_id, prelude_graph}
use Rattle.sm_model.specs.EventView.{EventTold, AreInOrder}
use Rattle.sm_model.specs.declared.kind.Kind.{Kind}
use Rattle.sm_merge.specs.Stated.{ShapeStated, Stated, apply_stated, shape_stated}
use Rattle.sm_merge.specs.Values.{IsValueOf, HaveConflict}
use Rattle.sm_merge.specs.Places.{shape_under, shapes_under, Agree, trait_values, metadata_values}
use Rattle.sm_merge.specs.Mixins.{EffectiveShape, IsEffective, AreCopied, Contributes, all_members, names_of}

-- a member of an enum that is given no value has its name for one
abbrev pub enum_value : List ℕ
enum_value = api_id (codes "enumValue")

abbrev pub is_enum : Kind → Bool
is_enum kind = bytes_eq (kind_name kind) (codes "enum")

abbrev pub with_enum_value : Kind → List ℕ → MemberEntry → MemberEntry
with_enum_value kind name m =
    if is_enum kind && not (is_some (fin.get m.traits enum_value))
    then record { target = m.target; traits = fin.insert m.traits enum_value (text name) }
    else m

-- what stands under an id: a shape, a member of one, or a shape of the prelude
pub record IsMergedShape (ss : List Stated) (id : List ℕ) (e : Entry) : Type 0 where
  pub s : ShapeStated
  pub there : shape_under id ss ≡ Some s
  pub m : EffectiveShape
  pub is_effective : IsEffective ss id m
  pub is : e ≡ shape_entry (record {
    kind = s.shape.kind;
    members = map (member_id id) (names_of m.members);
    properties = s.shape.properties;
    traits = m.traits;
  })

pub record IsMergedMember (ss : List Stated) (id : List ℕ) (e : Entry) : Type 0 where
  pub shape : List ℕ
  pub s : ShapeStated
  pub there : shape_under shape ss ≡ Some s
  pub m : EffectiveShape
  pub is_effective : IsEffective ss shape m
  pub name : List ℕ
  pub of : MemberEntry
  pub found : fin.find text_cmp name m.members ≡ Some of
  pub under : id ≡ member_id shape name
  pub is : e ≡ member_entry (with_enum_value s.shape.kind name of)

abbrev pub IsOfPrelude : List ℕ → Entry → Type 0
IsOfPrelude id e = fin.get prelude_graph.shapes id ≡ Some e

abbrev pub StandsUnder : List Stated → List ℕ → Entry → Type 0
StandsUnder ss id e = IsMergedShape ss id e ⊎ (IsMergedMember ss id e ⊎ IsOfPrelude id e)

-- the graph of statements
pub record IsGraphOf (ss : List Stated) (g : GraphMaps) : Type 0 where
  pub shapes : (id : List ℕ) (e : Entry) → (fin.get g.shapes id ≡ Some e) ↔ StandsUnder ss id e
  pub metadata : (key : List ℕ) (n : Node) → (fin.get g.metadata key ≡ Some n) ↔ IsValueOf (metadata_values ss key) n

-- a shape or member that the files define, alone or by mixins
abbrev pub IsThere : List Stated → List ℕ → Type 0
IsThere ss id = (e : Entry) × (IsMergedShape ss id e ⊎ IsMergedMember ss id e)

-- two statements for one shape differ
pub record HasOtherShape (ss : List Stated) (id : List ℕ) : Type 0 where
  pub first : ShapeStated
  pub there : shape_under id ss ≡ Some first
  pub other : ShapeStated
  pub among : Contains (shapes_under id ss) other
  pub differs : Agree first other → ⊥

-- or one is for a shape of the prelude
pub record IsStatedAgain (ss : List Stated) (id : List ℕ) : Type 0 where
  pub s : ShapeStated
  pub among : Contains ss (shape_stated s)
  pub same : s.shape.id ≡ id
  pub of_prelude : IsTrue (is_prelude_id id)

-- a member that is defined again with another target: by a later mixin, or by the shape itself
pub record IsDefinedOtherwise (ss : List Stated) (id target : List ℕ) : Type 0 where
  pub shape : List ℕ
  pub s : ShapeStated
  pub there : shape_under shape ss ≡ Some s
  pub copied : List EffectiveShape
  pub from_mixins : AreCopied ss s s.mixins copied
  pub name : List ℕ
  pub under : id ≡ member_id shape name
  pub first : MemberEntry
  pub found : fin.find text_cmp name (all_members copied s.shape.members) ≡ Some first
  pub again : MemberEntry
  pub among : Contains (all_members copied s.shape.members) (name, again)
  pub is : again.target ≡ target
  pub other : first.target ≡ target → ⊥

-- a mixin that doesn't contribute
pub record HasBadMixin (ss : List Stated) (id mixin : List ℕ) : Type 0 where
  pub s : ShapeStated
  pub there : shape_under id ss ≡ Some s
  pub among : Contains s.mixins mixin
  pub bad : Contributes ss s mixin → ⊥

-- traits are applied to what isn't there
pub record IsAppliedToNothing (ss : List Stated) (id : List ℕ) : Type 0 where
  pub traits : List (List ℕ × Node)
  pub among : Contains ss (apply_stated id traits)
  pub nothing : IsThere ss id → ⊥

-- values of one trait are in conflict
pub record HasTraitConflict (ss : List Stated) (id name : List ℕ) : Type 0 where
  pub there : IsThere ss id
  pub conflict : HaveConflict (trait_values ss id name)

abbrev pub model_event : List ℕ → List ℕ → List ℕ → EventTold
model_event shape event detail = record { shape = shape; event = event; detail = detail }

-- what is wrong
pub data IsWrong (ss : List Stated) (e : EventTold) : Type 0 where
  other_shape : (id : List ℕ) → HasOtherShape ss id → e ≡ model_event id (codes "Model.Shape") [] → IsWrong ss e
  stated_again : (id : List ℕ) → IsStatedAgain ss id → e ≡ model_event id (codes "Model.Shape") [] → IsWrong ss e
  trait_conflict : (id name : List ℕ) → HasTraitConflict ss id name → e ≡ model_event id (codes "Model.Trait") name → IsWrong ss e
  metadata_conflict : (key : List ℕ) → HaveConflict (metadata_values ss key) → e ≡ model_event unit_id (codes "Model.Metadata") key
      → IsWrong ss e
  applied_to_nothing : (id : List ℕ) → IsAppliedToNothing ss id → e ≡ model_event id (codes "Model.Apply") [] → IsWrong ss e
  defined_otherwise : (id target : List ℕ) → IsDefinedOtherwise ss id target → e ≡ model_event id (codes "Model.Member") target
      → IsWrong ss e
  bad_mixin : (id mixin : List ℕ) → HasBadMixin ss id mixin → e ≡ model_event id (codes "Model.Mixin") mixin → IsWrong ss e

-- all events, in their order, each once
pub record AreEventsOf (ss : List Stated) (es : List EventTold) : Type 0 where
  pub in_order : AreInOrder es
  pub all : (e : EventTold) → Contains es e ↔ IsWrong ss e
