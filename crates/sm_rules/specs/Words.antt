-- What the rules of models speak of: shapes and members outside of the prelude, their traits, and services with what they lead to (Smithy
-- 2.0, "The Smithy model", "Service types"). A rule that needs what isn't there, or a trait's value that doesn't read, doesn't fail.
use Rattle.std.specs.Prelude.{◌≡◌, ℕ, Bool, false, List, ◌∷◌, ◌++◌, Option, Some, is_some}
use Rattle.std.specs.FinMap as fin
use Rattle.std.specs.List.{Contains}
use Rattle.std.specs.Option.{option_and_then}
use Rattle.std.specs.declared.cmp.Ordering.TheVariants.{Greater}
use Rattle.sm_tree.specs.Node.{Node}
use Rattle.sm_model.specs.Graphs.{text_cmp, NodeMap, Entry, shape_entry, member_entry, ShapeEntry, MemberEntry, GraphMaps}
use Rattle.sm_model.specs.PreludeShapes.{is_prelude_id}
use Rattle.sm_model.specs.Relations.{HasEntry, Reaches}
use Rattle.sm_model.specs.declared.kind.Kind.{Kind}
use Rattle.sm_model.specs.declared.kind.Kind.TheVariants.{Operation, Service}
use Rattle.sm_compile.specs.Sound.{trait_of}
use Rattle.sm_compile.specs.TraitNodes.{field_of}
use Rattle.sm_rules.specs.TraitRows.{that_reads}

-- what a rule looks at: a shape or member outside of the prelude
abbrev pub IsOwn : GraphMaps → List ℕ → Entry → Type 0
IsOwn g id e = HasEntry g id e × (is_prelude_id id ≡ false)

abbrev pub IsOwnShape : GraphMaps → List ℕ → ShapeEntry → Type 0
IsOwnShape g id s = IsOwn g id (shape_entry s)

-- a member of a shape, which counts where the shape lists it
pub record IsMemberOf (g : GraphMaps) (shape : List ℕ) (s : ShapeEntry) (id : List ℕ) (m : MemberEntry) : Type 0 where
  pub home : IsOwnShape g shape s
  pub among : Contains s.members id
  pub there : HasEntry g id (member_entry m)

-- an id that a shape lists, with those that it lists before it, in model order
pub record IsListedBehind (g : GraphMaps) (shape : List ℕ) (s : ShapeEntry) (before : List (List ℕ)) (id : List ℕ) : Type 0 where
  pub home : IsOwnShape g shape s
  pub later : List (List ℕ)
  pub members : s.members ≡ before ++ id ∷ later

-- a trait stands there, whatever its value
abbrev pub has_trait : List ℕ → NodeMap → Bool
has_trait trait traits = is_some (fin.get traits trait)

abbrev pub CarriesTrait : GraphMaps → List ℕ → List ℕ → Node → Type 0
CarriesTrait g id trait n = (is_prelude_id id ≡ false) × (trait_of g id trait ≡ Some n)

-- the value of a trait where it reads
abbrev pub read_trait : GraphMaps → List ℕ → List ℕ → Option Node
read_trait g id trait = that_reads trait (trait_of g id trait)

-- a field of what may be there
abbrev pub field_in : List ℕ → Option Node → Option Node
field_in name n = option_and_then (field_of name) n

-- the least of the ids of which it holds
pub record IsLeast (Holds : List ℕ → Type 0) (id : List ℕ) : Type 0 where
  pub holds : Holds id
  pub least : (other : List ℕ) → Holds other → text_cmp id other ≡ Greater → ⊥

abbrev pub IsOwnOfKind : GraphMaps → Kind → List ℕ → Type 0
IsOwnOfKind g kind id = (s : ShapeEntry) × IsOwnShape g id s × (s.kind ≡ kind)

abbrev pub IsOperation : GraphMaps → List ℕ → Type 0
IsOperation g id = IsOwnOfKind g Operation id

abbrev pub IsService : GraphMaps → List ℕ → Type 0
IsService g id = IsOwnOfKind g Service id

-- the closure of a service: all to which references, members and targets lead from it
abbrev pub IsInClosure : GraphMaps → List ℕ → List ℕ → Type 0
IsInClosure g service id = IsService g service × Reaches g service id
