-- The values of enums and intEnums, and bounds (Smithy 2.0, "Enum shape", "intEnum shape", "length trait", "range trait").
use Rattle.std.specs.Prelude.{◌≡◌, ◌⊎◌, ◌&&◌, ℕ, false, List, [], Some, codes}
use Rattle.std.specs.List.{Contains}
use Rattle.sm_tree.specs.Node.{Node}
use Rattle.sm_model.specs.Graphs.{ShapeEntry, GraphMaps}
use Rattle.sm_model.specs.PreludeShapes.{is_prelude_id}
use Rattle.sm_model.specs.declared.kind.Kind.{Kind}
use Rattle.sm_model.specs.declared.kind.Kind.TheVariants.{Enum, IntEnum}
use Rattle.sm_compile.specs.Sound.{trait_of, HasText, HasNumber}
use Rattle.sm_compile.specs.TraitIds.{enum_value_id, length_id, range_id}
use Rattle.sm_compile.specs.TraitNodes.{are_ordered, are_lengths}
use Rattle.sm_rules.specs.Words.{IsOwnShape, IsListedBehind, read_trait}

-- an enum, and an intEnum
abbrev pub IsEnumKind : Kind → Type 0
IsEnumKind kind = (kind ≡ Enum) ⊎ (kind ≡ IntEnum)

abbrev pub HasNoMembers : GraphMaps → List ℕ → Type 0
HasNoMembers g id = (s : ShapeEntry) × IsOwnShape g id s × IsEnumKind s.kind × (s.members ≡ [])

-- a member has a value of its shape's type
abbrev pub HasItsValue : GraphMaps → Kind → List ℕ → Type 0
HasItsValue g Enum id = HasText g id
HasItsValue g IntEnum id = HasNumber g id
HasItsValue g kind id = Unit {0}

-- an earlier member has this value too
abbrev pub HasEarlierValue : GraphMaps → List (List ℕ) → List ℕ → Type 0
HasEarlierValue g before id =
    (earlier : List ℕ) × Contains before earlier × ((n : Node) × (trait_of g id enum_value_id ≡ Some n)
    × (trait_of g earlier enum_value_id ≡ Some n))

pub record HasWrongEnumValue (g : GraphMaps) (id : List ℕ) : Type 0 where
  pub shape : List ℕ
  pub s : ShapeEntry
  pub before : List (List ℕ)
  pub behind : IsListedBehind g shape s before id
  pub kind : IsEnumKind s.kind
  pub wrong : (HasItsValue g s.kind id → ⊥) ⊎ HasEarlierValue g before id

-- Enum.Values: an enum or intEnum has no members; or one of its members has no value, one of another type, one that doesn't fit 32
-- bits, an empty text, or that of an earlier one; nothing more is told
pub data HasWrongEnum (g : GraphMaps) (id detail : List ℕ) : Type 0 where
  has_none : HasNoMembers g id → detail ≡ [] → HasWrongEnum g id detail
  wrong_value : HasWrongEnumValue g id → detail ≡ [] → HasWrongEnum g id detail

-- Constraint.Bounds: `min` is more than `max` where both fit a word, or a bound of `length` is negative; values that don't read aren't
-- looked at. Told is the trait's name
pub data HasWrongBounds (g : GraphMaps) (id detail : List ℕ) : Type 0 where
  wrong_length : (n : Node) → is_prelude_id id ≡ false → read_trait g id length_id ≡ Some n → (are_ordered n && are_lengths n) ≡ false
      → detail ≡ codes "length" → HasWrongBounds g id detail
  wrong_range : (n : Node) → is_prelude_id id ≡ false → read_trait g id range_id ≡ Some n → are_ordered n ≡ false → detail ≡ codes "range"
      → HasWrongBounds g id detail
