-- Of which shapes a table can be made: all that they reach is there, of a kind that may stand there, and has the members, names,
-- values and constraints of its kind (Smithy 2.0, "Aggregate types", "Constraint traits"). A graph in which no rule fails is
-- sound for each of its shapes.
use Rattle.std.specs.Prelude.{◌≡◌, ℕ, ℤ, true, false, List, [], ◌∷◌, map, unwrap_or, Option, Some, None, Bool, IsTrue, FitsSigned}
use Rattle.std.specs.Int.{w32}
use Rattle.std.specs.List.{Contains, cons_option}
use Rattle.std.specs.FinMap as fin
use Rattle.std.specs.Str.{bytes_eq}
use Rattle.sm_tree.specs.Node.{Node, text, int}
use Rattle.sm_model.specs.Formed.{HaveForm}
use Rattle.sm_model.specs.Kinds.{member_form}
use Rattle.sm_model.specs.Graphs.{Entry, shape_entry, member_entry, ShapeEntry, MemberEntry, GraphMaps, member_id, traits_in}
use Rattle.sm_model.specs.GraphView.{maps_of}
use Rattle.sm_model.specs.PreludeShapes.{unit_id}
use Rattle.sm_model.specs.Reaching.{id_of_number}
use Rattle.sm_model.specs.Relations.{HasEntry}
use Rattle.sm_model.specs.declared.graph.Graph.{Graph}
use Rattle.sm_model.specs.declared.kind.Kind.{Kind}
use Rattle.sm_model.specs.declared.kind.Kind.TheVariants.{Enum, IntEnum, Map}
use Rattle.sm_shapes.specs.Names.{AllDiffer}
use Rattle.sm_compile.specs.Kinds.{has_values, is_text_kind, may_target}
use Rattle.sm_compile.specs.Reached.{IsReached}
use Rattle.sm_compile.specs.TraitIds.{enum_value_id, json_name_id}
use Rattle.sm_compile.specs.TraitNodes.{number_of, text_of, own_traits, where_there, is_enum_value, AreFormedTraits}

-- the value of a trait of what stands under an id
abbrev pub trait_in : List ℕ → Option Entry → Option Node
trait_in name None = None
trait_in name (Some e) = fin.get (traits_in e) name

abbrev pub trait_of : GraphMaps → List ℕ → List ℕ → Option Node
trait_of g id name = trait_in name (fin.get g.shapes id)

-- the name that a member has in JSON where JSON names are looked at
abbrev pub json_name_of : GraphMaps → List ℕ → List ℕ → List ℕ
json_name_of g shape name = unwrap_or (text_of (trait_of g (member_id shape name) json_name_id)) name

-- a member of a shape of this kind
pub record IsSoundMember (g : GraphMaps) (kind : Kind) (id : List ℕ) : Type 0 where
  pub m : MemberEntry
  pub there : HasEntry g id (member_entry m)
  pub target : ShapeEntry
  pub found : HasEntry g m.target (shape_entry target)
  pub may_target : IsTrue (may_target kind (bytes_eq m.target unit_id) target.kind)
  pub traits : AreFormedTraits target.kind (own_traits m.traits)
  pub value : IsTrue (where_there (is_enum_value kind) (fin.get m.traits enum_value_id))

abbrev pub AreSoundMembers : GraphMaps → Kind → List (List ℕ) → Type 0
AreSoundMembers g kind [] = Unit {0}
AreSoundMembers g kind (id ∷ ids) = IsSoundMember g kind id × AreSoundMembers g kind ids

-- the keys of a map are texts
abbrev pub TargetsText : GraphMaps → List ℕ → Type 0
TargetsText g id =
    (m : MemberEntry) (s : ShapeEntry) → HasEntry g id (member_entry m) → HasEntry g m.target (shape_entry s) → is_text_kind s.kind ≡ true

abbrev pub HasTextKey : GraphMaps → Kind → List (List ℕ) → Type 0
HasTextKey g Map (key ∷ members) = TargetsText g key
HasTextKey g kind members = Unit {0}

-- the values of the members of an enum and of an intEnum, in order
abbrev pub enum_texts : GraphMaps → List (List ℕ) → List (List ℕ)
enum_texts g [] = []
enum_texts g (id ∷ ids) = cons_option (text_of (trait_of g id enum_value_id)) (enum_texts g ids)

abbrev pub enum_numbers : GraphMaps → List (List ℕ) → List ℤ
enum_numbers g [] = []
enum_numbers g (id ∷ ids) = cons_option (number_of (trait_of g id enum_value_id)) (enum_numbers g ids)

-- each member has a text that isn't empty; a number of 32 bits
abbrev pub HasText : GraphMaps → List ℕ → Type 0
HasText g id = (t : List ℕ) × (trait_of g id enum_value_id ≡ Some (text t)) × (t ≡ [] → ⊥)

abbrev pub HasNumber : GraphMaps → List ℕ → Type 0
HasNumber g id = (z : ℤ) × (trait_of g id enum_value_id ≡ Some (int z)) × FitsSigned w32 z

-- no number stands twice
abbrev pub NoneIsNumber : ℤ → List ℤ → Type 0
NoneIsNumber z [] = Unit {0}
NoneIsNumber z (y ∷ ys) = (y ≡ z → ⊥) × NoneIsNumber z ys

abbrev pub AllNumbersDiffer : List ℤ → Type 0
AllNumbersDiffer [] = Unit {0}
AllNumbersDiffer (z ∷ zs) = NoneIsNumber z zs × AllNumbersDiffer zs

-- an enum has members, and their values differ
pub record HasEnumTexts (g : GraphMaps) (members : List (List ℕ)) : Type 0 where
  pub some : members ≡ [] → ⊥
  pub each : (id : List ℕ) → Contains members id → HasText g id
  pub differ : AllDiffer (enum_texts g members)

pub record HasEnumNumbers (g : GraphMaps) (members : List (List ℕ)) : Type 0 where
  pub some : members ≡ [] → ⊥
  pub each : (id : List ℕ) → Contains members id → HasNumber g id
  pub differ : AllNumbersDiffer (enum_numbers g members)

abbrev pub HasItsValues : GraphMaps → Kind → List (List ℕ) → Type 0
HasItsValues g Enum members = HasEnumTexts g members
HasItsValues g IntEnum members = HasEnumNumbers g members
HasItsValues g kind members = Unit {0}

-- a shape with its members
pub record IsSoundShape (g : GraphMaps) (id : List ℕ) (s : ShapeEntry) : Type 0 where
  pub names : List (List ℕ)
  pub members : s.members ≡ map (member_id id) names
  pub form : HaveForm (member_form s.kind) names
  pub json_names : AllDiffer (map (json_name_of g id) names)
  pub each : AreSoundMembers g s.kind s.members
  pub key : HasTextKey g s.kind s.members
  pub values : HasItsValues g s.kind s.members
  pub traits : AreFormedTraits s.kind (own_traits s.traits)

-- what stands at this number of a graph is, if it is a shape
abbrev pub IsSoundAt : Graph → ℕ → Type 0
IsSoundAt g k =
    (s : ShapeEntry) → HasEntry (maps_of g) (id_of_number g k) (shape_entry s) → IsSoundShape (maps_of g) (id_of_number g k) s

-- a shape that has values
abbrev pub IsValueShape : GraphMaps → List ℕ → Type 0
IsValueShape g id = (s : ShapeEntry) × HasEntry g id (shape_entry s) × (has_values s.kind ≡ true)

-- each shape that it reaches is in order; nothing is asked of an id that is none of a shape with values
abbrev pub Sound : GraphMaps → List ℕ → Type 0
Sound g root = IsValueShape g root → (id : List ℕ) (s : ShapeEntry) → IsReached g root id → HasEntry g id (shape_entry s) → IsSoundShape
    g id s

-- whether a shape is
abbrev pub TellsSound : GraphMaps → List ℕ → Bool → Type 0
TellsSound g root true = Sound g root
TellsSound g root false = Sound g root → ⊥
