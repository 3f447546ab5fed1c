-- References: that they name shapes, of the types that may stand there (Smithy 2.0, "Aggregate types", "Service types").
use Rattle.std.specs.Prelude.{◌≡◌, ◌&&◌, ℕ, Bool, true, false, not, List, cond, codes}
use Rattle.std.specs.Str.{bytes_eq}
use Rattle.sm_model.specs.Graphs.{Entry, shape_entry, member_entry, ShapeEntry, MemberEntry, GraphMaps, member_id}
use Rattle.sm_model.specs.PreludeShapes.{unit_id}
use Rattle.sm_model.specs.Relations.{HasEntry, IsInGraph, SaysRelated, SaysInBody}
use Rattle.sm_model.specs.declared.kind.Kind.{Kind}
use Rattle.sm_model.specs.declared.kind.Kind.TheVariants as model
use Rattle.sm_model.specs.declared.relation.Relation.{Relation}
use Rattle.sm_model.specs.declared.relation.Relation.TheVariants.{Member, Container, Target, Input, Output, Error, Operation, Resource}
use Rattle.sm_model.specs.declared.relation.Relation.TheVariants.{Identifier, Property}
use Rattle.sm_compile.specs.Kinds.{has_values, is_text_kind, may_target}
use Rattle.sm_compile.specs.TraitIds.{error_id}
use Rattle.sm_rules.specs.TraitRows.{is_kind}
use Rattle.sm_rules.specs.Words.{IsOwn, IsOwnShape, IsMemberOf, has_trait}

-- a shape or member refers to an id; that a shape has members is no reference, and neither is a name of `rename`
pub record RefersTo (g : GraphMaps) (from id : List ℕ) : Type 0 where
  pub e : Entry
  pub own : IsOwn g from e
  pub relation : Relation
  pub other : relation ≡ Member → ⊥
  pub says : SaysRelated relation e id

-- Target.Missing: a reference names no shape; told is the id
pub record RefersToNothing (g : GraphMaps) (from id : List ℕ) : Type 0 where
  pub refers : RefersTo g from id
  pub nothing : IsInGraph g id → ⊥

-- the member `key` of a shape
abbrev pub is_key : List ℕ → List ℕ → Bool
is_key shape id = bytes_eq id (member_id shape (codes "key"))

-- what a member of a shape of this type may target: as `may_target`, and the key of a map a text
abbrev pub may_be_target : Kind → Bool → Bool → Kind → Bool
may_be_target model.Map key is_unit kind = cond key (is_text_kind kind) (may_target model.Map is_unit kind)
may_be_target home key is_unit kind = may_target home is_unit kind

abbrev pub may_be_targeted : Kind → Bool → Bool → Entry → Bool
may_be_targeted home key is_unit (shape_entry s) = may_be_target home key is_unit s.kind
may_be_targeted home key is_unit (member_entry m) = false

-- a structure that is an error, and one that isn't
abbrev pub is_error_structure : ShapeEntry → Bool
is_error_structure s = is_kind model.Structure s.kind && has_trait error_id s.traits

abbrev pub is_plain_structure : ShapeEntry → Bool
is_plain_structure s = is_kind model.Structure s.kind && not (has_trait error_id s.traits)

-- what an operation, a service and a resource may refer to. A property has any target that some member may have, `Unit` too
abbrev pub may_be_referred : Relation → ShapeEntry → Bool
may_be_referred Input s = is_plain_structure s
may_be_referred Output s = is_plain_structure s
may_be_referred Error s = is_error_structure s
may_be_referred Operation s = is_kind model.Operation s.kind
may_be_referred Resource s = is_kind model.Resource s.kind
may_be_referred Identifier s = is_kind model.Text s.kind
may_be_referred Property s = has_values s.kind
may_be_referred Member s = true
may_be_referred Container s = true
may_be_referred Target s = true

abbrev pub may_be_in_body : Relation → Entry → Bool
may_be_in_body relation (shape_entry s) = may_be_referred relation s
may_be_in_body relation (member_entry m) = false

-- a member targets what it may not
pub record TargetsOther (g : GraphMaps) (from id : List ℕ) : Type 0 where
  pub shape : List ℕ
  pub s : ShapeEntry
  pub m : MemberEntry
  pub member : IsMemberOf g shape s from m
  pub targets : m.target ≡ id
  pub e : Entry
  pub there : HasEntry g id e
  pub may_not : may_be_targeted s.kind (is_key shape from) (bytes_eq id unit_id) e ≡ false

-- a body refers to what it may not
pub record BodyRefersToOther (g : GraphMaps) (from id : List ℕ) : Type 0 where
  pub s : ShapeEntry
  pub own : IsOwnShape g from s
  pub relation : Relation
  pub says : SaysInBody relation s id
  pub e : Entry
  pub there : HasEntry g id e
  pub may_not : may_be_in_body relation e ≡ false

-- Target.Kind: a reference has a wrong type; told is the id
pub data RefersToOther (g : GraphMaps) (from id : List ℕ) : Type 0 where
  by_member : TargetsOther g from id → RefersToOther g from id
  by_body : BodyRefersToOther g from id → RefersToOther g from id
