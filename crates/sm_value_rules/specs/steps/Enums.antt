-- The values of the members of enums, and what is told of them.
use Rattle.std.specs.Prelude.{◌≡◌, ℕ, ℤ, Bool, true, false, List, [], ◌∷◌, Option, Some, None, cond, slice_get, take}
use Rattle.std.specs.List.{Contains}
use Rattle.sm_tree.specs.Node.{Node, int, text}
use Rattle.sm_model.specs.EventView.{EventTold}
use Rattle.sm_model.specs.Graphs.{GraphMaps}
use Rattle.sm_model.specs.GraphView.{maps_of}
use Rattle.sm_model.specs.Reaching.{id_of_number}
use Rattle.sm_model.specs.declared.graph.Graph.{Graph}
use Rattle.sm_model.specs.declared.kind.Kind.{Kind}
use Rattle.sm_model.specs.declared.kind.Kind.TheVariants.{Enum, IntEnum}
use Rattle.sm_compile.specs.Sound.{trait_of}
use Rattle.sm_compile.specs.TraitIds.{enum_value_id}
use Rattle.sm_compile.specs.TraitNodes.{fits_word, number_of, text_of}
use Rattle.sm_rules.specs.Constraints.{HasNoMembers, HasWrongEnumValue}
use Rattle.sm_rules.specs.RuleEvents.{rule_event}
use Rattle.sm_rules.specs.declared.rule.Rule.TheVariants.{EnumValues}
use Rattle.sm_passes.specs.Owned.{own_kind}

-- the two cases of the rule
abbrev pub HasNone : GraphMaps → List ℕ → List ℕ → Type 0
HasNone g id detail = HasNoMembers g id × (detail ≡ [])

abbrev pub HasWrong : GraphMaps → List ℕ → List ℕ → Type 0
HasWrong g id detail = HasWrongEnumValue g id × (detail ≡ [])

abbrev pub home_of : (g : GraphMaps) (id detail : List ℕ) → HasWrong g id detail → List ℕ
home_of g id detail h = h.0.shape

-- the type of an enum outside of the prelude
abbrev pub enum_of : Kind → Option Kind
enum_of Enum = Some Enum
enum_of IntEnum = Some IntEnum
enum_of kind = None

abbrev pub enum_where : Option Kind → Option Kind
enum_where None = None
enum_where (Some kind) = enum_of kind

abbrev pub own_enum : GraphMaps → List ℕ → Option Kind
own_enum g id = enum_where (own_kind g id)

-- there are no members
abbrev pub are_none : List ℕ → Bool
are_none [] = true
are_none (k ∷ ks) = false

-- the value of a member, where it is one of its shape's type
abbrev pub right_text : Option (List ℕ) → Option Node
right_text None = None
right_text (Some []) = None
right_text (Some (c ∷ cs)) = Some (text (c ∷ cs))

abbrev pub right_number : Option ℤ → Option Node
right_number None = None
right_number (Some z) = cond (fits_word z) (Some (int z)) None

abbrev pub right_value : Kind → Option Node → Option Node
right_value Enum n = right_text (text_of n)
right_value IntEnum n = right_number (number_of n)
right_value kind n = None

abbrev pub value_at : Graph → Kind → ℕ → Option Node
value_at g kind k = right_value kind (trait_of (maps_of g) (id_of_number g k) enum_value_id)

-- one of these members has it
abbrev pub IsValueAmong : Graph → Kind → List ℕ → Node → Type 0
IsValueAmong g kind ks n = (k : ℕ) × Contains ks k × (value_at g kind k ≡ Some n)

-- a member has no value, or one that was seen
abbrev pub IsWrongAfter : (Node → Type 0) → Option Node → Type 0
IsWrongAfter WasSeen None = Unit {0}
IsWrongAfter WasSeen (Some n) = WasSeen n

abbrev pub ToldValue : Graph → (Node → Type 0) → Option Node → ℕ → EventTold → Type 0
ToldValue g WasSeen value k e = IsWrongAfter WasSeen value × (e ≡ rule_event EnumValues (id_of_number g k) [])

-- of the one at a place, by those before it
abbrev pub ToldValueAt : Graph → Kind → List ℕ → ℕ → EventTold → Type 0
ToldValueAt g kind ks i e =
    (k : ℕ) × (slice_get ks i ≡ Some k) × ToldValue g (IsValueAmong g kind (take i ks)) (value_at g kind k) k e
