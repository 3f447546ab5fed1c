-- Shapes that are found to have finite values, one after the other: what is known, and what a shape waits for.
use Rattle.std.specs.Prelude.{◌≡◌, ◌⊎◌, ◌&&◌, ◌<◌, ◌≤◌, ℕ, Bool, true, false, not, List, [], ◌++◌, Option, Some, None, get_or, length, map}
use Rattle.std.specs.FinMap as fin
use Rattle.std.specs.List.{Contains}
use Rattle.sm_model.specs.GraphView.{IsShapeNumber, entries_of, maps_of}
use Rattle.sm_model.specs.PreludeShapes.{is_prelude_id}
use Rattle.sm_model.specs.Reaching.{AreFound, AreMarks, IsMarked, id_of_number}
use Rattle.sm_model.specs.declared.graph.Graph.{Graph}
use Rattle.sm_model.specs.declared.kind.Kind.{Kind}
use Rattle.sm_model.specs.declared.kind.Kind.TheVariants.{Structure, Union, Service, Operation, Resource}
use Rattle.sm_select.specs.Neighbors.{HasStep}
use Rattle.sm_compile.specs.Looked.{kind_under, listed_under, target_under}
use Rattle.sm_compile.specs.TraitIds.{required_id}
use Rattle.sm_passes.specs.Carrying.{carries}
use Rattle.sm_passes.specs.Owned.{is_member_in}
use Rattle.sm_reference_rules.specs.declared.finite.Known.{Known}
use Rattle.sm_reference_rules.specs.declared.finite.FiniteWay.{FiniteWay}
use Rattle.sm_reference_rules.specs.declared.finite.FiniteWay.TheVariants.{ByRequired, ByOne, Always, Never}
use Rattle.sm_rules.specs.Shapes.{HasFinite, is_always_finite}

-- structures and unions outside of the prelude that aren't marked, as a test
abbrev pub is_compound : Option Kind → Bool
is_compound (Some Structure) = true
is_compound (Some Union) = true
is_compound other = false

abbrev pub is_infinite : Graph → List Bool → ℕ → Bool
is_infinite g marks k =
    is_compound (kind_under (maps_of g) (id_of_number g k)) && (not (is_prelude_id (id_of_number g k)) && not (get_or marks k false))

-- how shapes of a type come to a finite value
abbrev pub way_of : Kind → FiniteWay
way_of Structure = ByRequired
way_of Union = ByOne
way_of Service = Never
way_of Operation = Never
way_of Resource = Never
way_of kind = Always

-- exactly what has a finite value is marked
abbrev pub AreFinite : Graph → List Bool → Type 0
AreFinite g marks = AreMarks (length (entries_of g)) (λ k. HasFinite (maps_of g) (id_of_number g k)) marks

-- its target stands in the graph, and isn't among those that were taken
abbrev pub Opens : Graph → (ℕ → Type 0) → List ℕ → Type 0
Opens g Taken id = (t : ℕ) × IsShapeNumber g t × (target_under (maps_of g) id ≡ Some (id_of_number g t)) × (Taken t → ⊥)

abbrev pub is_member_id : Graph → List ℕ → Bool
is_member_id g id = is_member_in (fin.get (maps_of g).shapes id)

-- no member, or one with such a target; of a structure, one that is required
abbrev pub Lacks : Graph → (ℕ → Type 0) → List ℕ → Type 0
Lacks g Taken id = (is_member_id g id ≡ false) ⊎ Opens g Taken id

abbrev pub Wants : Graph → (ℕ → Type 0) → List ℕ → Type 0
Wants g Taken id = (is_member_id g id ≡ false) ⊎ ((carries (maps_of g) required_id id ≡ true) × Opens g Taken id)

-- what a shape waits for: a structure for the member at its place, a union for all of its members; services, operations and
-- resources have no values
abbrev pub StuckBy : Graph → (ℕ → Type 0) → List (List ℕ) → ℕ → Option Kind → Type 0
StuckBy g Taken ids place None = Unit {0}
StuckBy g Taken ids place (Some Structure) = (place < length ids) × Wants g Taken (get_or ids place [])
StuckBy g Taken ids place (Some Union) = (id : List ℕ) → Contains ids id → Lacks g Taken id
StuckBy g Taken ids place (Some kind) = is_always_finite kind ≡ false

abbrev pub IsStuck : Graph → (ℕ → Type 0) → ℕ → ℕ → Type 0
IsStuck g Taken k place =
    StuckBy g Taken (listed_under (maps_of g) (id_of_number g k)) place (kind_under (maps_of g) (id_of_number g k))

-- what is marked was found, and has a finite value; a structure wants none of the members before its place
pub record Knows (g : Graph) (known : Known) : Type 0 where
  pub are : AreFound known.marks.items known.found.items
  pub whole : length known.marks.items ≡ length (entries_of g)
  pub long : length known.places.items ≡ length (entries_of g)
  pub right : (k : ℕ) → IsMarked known.marks.items k → HasFinite (maps_of g) (id_of_number g k)
  pub passed : (k i : ℕ) → kind_under (maps_of g) (id_of_number g k) ≡ Some Structure → i < get_or known.places.items k 0
      → Wants g (IsMarked known.marks.items) (get_or (listed_under (maps_of g) (id_of_number g k)) i []) → ⊥

-- what isn't marked waits for what wasn't taken
abbrev pub Waits : Graph → (ℕ → Type 0) → Known → Type 0
Waits g Taken known =
    (k : ℕ) → IsShapeNumber g k → (IsMarked known.marks.items k → ⊥) → IsStuck g Taken k (get_or known.places.items k 0)

-- more is known, where these were looked at: each of them is marked, or waits by what was marked before
pub record Moves (g : Graph) (Looked : ℕ → Type 0) (old now : Known) : Type 0 where
  pub knows : Knows g now
  pub later : List ℕ
  pub behind : now.found.items ≡ old.found.items ++ later
  pub more : (k : ℕ) → IsMarked old.marks.items k → IsMarked now.marks.items k
  pub kept : (k : ℕ) → IsShapeNumber g k → (IsMarked now.marks.items k → ⊥)
      → (get_or now.places.items k 0 ≡ get_or old.places.items k 0) ⊎ IsStuck g (IsMarked old.marks.items) k (get_or now.places.items k 0)
  pub looked : (k : ℕ) → IsShapeNumber g k → Looked k → (IsMarked now.marks.items k → ⊥)
      → IsStuck g (IsMarked old.marks.items) k (get_or now.places.items k 0)

-- one shape was looked at: by what is marked it has a finite value, or waits
abbrev pub Says : Graph → List Bool → ℕ → ℕ → Bool → Type 0
Says g marks k place true = HasFinite (maps_of g) (id_of_number g k)
Says g marks k place false = IsStuck g (IsMarked marks) k place

pub record Sees (g : Graph) (k : ℕ) (old : Known) (seen : Bool) (now : Known) : Type 0 where
  pub knows : Knows g now
  pub marks : now.marks.items ≡ old.marks.items
  pub found : now.found.items ≡ old.found.items
  pub others : (j : ℕ) → (j ≡ k → ⊥) → get_or now.places.items j 0 ≡ get_or old.places.items j 0
  pub says : Says g now.marks.items k (get_or now.places.items k 0) seen

-- the next member that a structure wants, from a place
pub record IsNext (Wanted : List ℕ → Type 0) (ids : List (List ℕ)) (from next : ℕ) : Type 0 where
  pub within : next ≤ length ids
  pub passed : (i : ℕ) → from ≤ i → i < next → Wanted (get_or ids i []) → ⊥
  pub wanted : next < length ids → Wanted (get_or ids next [])

-- one of these members of a union doesn't lack its target, or each does
abbrev pub SomeClosed : Graph → (ℕ → Type 0) → List (List ℕ) → Bool → Type 0
SomeClosed g Taken ids true = (id : List ℕ) × Contains ids id × (Lacks g Taken id → ⊥)
SomeClosed g Taken ids false = (id : List ℕ) → Contains ids id → Lacks g Taken id

-- of these members none is wanted from one place up to another
abbrev pub PassedTo : Graph → (ℕ → Type 0) → List ℕ → ℕ → ℕ → Type 0
PassedTo g Taken ms from place =
    (i : ℕ) → from ≤ i → i < place → Wants g Taken (get_or (map (id_of_number g) ms) i []) → ⊥

-- the shapes that have a member, and those of whose members one targets a shape
abbrev pub IsHome : Graph → List (List ℕ) → ℕ → ℕ → Type 0
IsHome g back member k = (is_member_id g (id_of_number g member) ≡ true) × HasStep back member k

abbrev pub IsHomeOf : Graph → List (List ℕ) → List ℕ → ℕ → Type 0
IsHomeOf g back members k = (member : ℕ) × Contains members member × IsHome g back member k

abbrev pub IsUser : Graph → List (List ℕ) → ℕ → ℕ → Type 0
IsUser g back target k = IsHomeOf g back (get_or back target []) k
