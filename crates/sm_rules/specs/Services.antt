-- The names of what a service leads to (Smithy 2.0, "Service", sections "Service closure" and "rename").
use Rattle.std.specs.Prelude.{◌≡◌, ◌⊎◌, ℕ, true, List, [], ◌∷◌, Option, Some, codes}
use Rattle.std.specs.Option.{unwrap_or}
use Rattle.std.specs.declared.cmp.Ordering.TheVariants.{Less}
use Rattle.sm_ids.specs.Fold.{FoldsTo}
use Rattle.sm_ids.specs.IdText.{Id, IdText}
use Rattle.sm_tree.specs.Node.{Members, object}
use Rattle.sm_tree.specs.Same.{HasName}
use Rattle.sm_model.specs.Graphs.{text_cmp, shape_entry, ShapeEntry, GraphMaps}
use Rattle.sm_model.specs.Relations.{HasEntry, Reaches}
use Rattle.sm_model.specs.declared.kind.Kind.{Kind}
use Rattle.sm_model.specs.declared.kind.Kind.TheVariants.{Structure, Union, Enum, IntEnum, Operation, Resource, Service}
use Rattle.sm_compile.specs.TraitIds.{error_id}
use Rattle.sm_compile.specs.TraitNodes.{field_of, text_of}
use Rattle.sm_rules.specs.TraitRows.{is_among}
use Rattle.sm_rules.specs.Words.{IsOwnShape, IsInClosure, field_in, has_trait}

-- the types of shapes whose names differ in a closure; simple shapes, lists and maps may share names
abbrev pub named_kinds : List Kind
named_kinds = Structure ∷ Union ∷ Enum ∷ IntEnum ∷ Operation ∷ Resource ∷ []

-- the name that a service gives to a shape: the new one, else that of its id
abbrev pub name_given : ShapeEntry → List ℕ → Option (List ℕ)
name_given service id = text_of (field_in id (field_of (codes "rename") service.properties))

abbrev pub IsNameIn : ShapeEntry → List ℕ → List ℕ → Type 0
IsNameIn service id name = (parts : Id) × IdText parts id × (name ≡ unwrap_or (name_given service id) parts.name)

-- a shape of the closure whose name counts, with its name
pub record IsNamedIn (g : GraphMaps) (service : List ℕ) (v : ShapeEntry) (id name : List ℕ) : Type 0 where
  pub s : ShapeEntry
  pub own : IsOwnShape g id s
  pub kind : is_among named_kinds s.kind ≡ true
  pub inside : IsInClosure g service id
  pub named : IsNameIn v id name

-- a smaller one has its name but for case
pub record HasNameAgain (g : GraphMaps) (service id : List ℕ) : Type 0 where
  pub v : ShapeEntry
  pub own : IsOwnShape g service v
  pub name : List ℕ
  pub named : IsNamedIn g service v id name
  pub smaller : List ℕ
  pub other : List ℕ
  pub other_named : IsNamedIn g service v smaller other
  pub order : text_cmp smaller id ≡ Less
  pub same : FoldsTo other name

-- a shape that has no new name: an error, an operation, a resource, a service
abbrev pub KeepsName : GraphMaps → List ℕ → Type 0
KeepsName g id =
    (s : ShapeEntry) × HasEntry g id (shape_entry s)
    × ((has_trait error_id s.traits ≡ true) ⊎ (is_among (Operation ∷ Resource ∷ Service ∷ []) s.kind ≡ true))

pub record RenamesWrongly (g : GraphMaps) (service id : List ℕ) : Type 0 where
  pub v : ShapeEntry
  pub own : IsOwnShape g service v
  pub kind : v.kind ≡ Service
  pub pairs : Members
  pub rename : field_of (codes "rename") v.properties ≡ Some (object pairs)
  pub among : HasName id pairs
  pub wrong : KeepsName g id ⊎ (Reaches g service id → ⊥)

-- Service.Names: two shapes of a service's closure have one name but for case, of which the greater id is told; or `rename` names a
-- shape that keeps its name, or what isn't in the closure, which is told
pub data HasWrongNames (g : GraphMaps) (service detail : List ℕ) : Type 0 where
  name_again : HasNameAgain g service detail → HasWrongNames g service detail
  wrong_rename : RenamesWrongly g service detail → HasWrongNames g service detail
