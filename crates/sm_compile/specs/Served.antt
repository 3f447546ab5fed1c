-- Which shapes aren't served, and the first way to one: from a shape by its members, in model order, deeper ones before later ones,
-- entering no shape twice. A walk that enters each shape once finds this way first.
use Rattle.std.specs.Prelude.{◌≡◌, ◌⊎◌, ℕ, true, List, [], ◌∷◌, map, Some, slice_get, codes, is_some}
use Rattle.std.specs.FinMap as fin
use Rattle.std.specs.List.{Contains}
use Rattle.std.specs.declared.cmp.Ordering.TheVariants.{Less}
use Rattle.std.specs.Ordering.{nat_cmp}
use Rattle.std.specs.Cmp.Lexicographic.{slice_cmp}
use Rattle.sm_model.specs.Graphs.{GraphMaps, ShapeEntry, MemberEntry, shape_entry, member_entry, member_id}
use Rattle.sm_model.specs.Relations.{HasEntry}
use Rattle.sm_model.specs.declared.kind.Kind.TheVariants.{Structure, Union}
use Rattle.sm_shapes.specs.Names.{AllDiffer}
use Rattle.sm_shapes.specs.declared.kinds.ShapeKind.TheVariants.{LeftOut}
use Rattle.sm_compile.specs.Kinds.{table_kind, value_members}
use Rattle.sm_compile.specs.Reached.{IsReached}
use Rattle.sm_compile.specs.Sound.{json_name_of}
use Rattle.sm_compile.specs.TraitIds.{streaming_id}

-- the name under which a message tells its type, where one does
abbrev pub type_name : List ℕ
type_name = codes "__type"

-- a structure or a union has a member of this name, or with this JSON name
abbrev pub HasTypeMember : GraphMaps → List ℕ → ShapeEntry → Type 0
HasTypeMember g id s =
    ((s.kind ≡ Structure) ⊎ (s.kind ≡ Union))
    × ((name : List ℕ) × Contains s.members (member_id id name) × ((name ≡ type_name) ⊎ (json_name_of g id name ≡ type_name)))

-- a shape of a type that is left out, and one that reaches such a shape
abbrev pub IsLeftOut : GraphMaps → List ℕ → Type 0
IsLeftOut g id = (s : ShapeEntry) × HasEntry g id (shape_entry s) × (table_kind s.kind ≡ LeftOut)

abbrev pub ReachesLeftOut : GraphMaps → List ℕ → Type 0
ReachesLeftOut g root = (id : List ℕ) × IsReached g root id × IsLeftOut g id

-- a shape that streams, or in which a message tells its type
abbrev pub IsSpecial : GraphMaps → List ℕ → Type 0
IsSpecial g id =
    (s : ShapeEntry) × HasEntry g id (shape_entry s) × ((is_some (fin.get s.traits streaming_id) ≡ true) ⊎ HasTypeMember g id s)

-- a shape that isn't served by itself
abbrev pub IsUnserved : GraphMaps → List ℕ → Type 0
IsUnserved g id = IsLeftOut g id ⊎ IsSpecial g id

-- a step from a shape: by the member of this number, which has this name, to this target
pub record WayStep : Type 0 where
  pub at : ℕ
  pub name : List ℕ
  pub to : List ℕ

pub record IsStep (g : GraphMaps) (id : List ℕ) (step : WayStep) : Type 0 where
  pub s : ShapeEntry
  pub there : HasEntry g id (shape_entry s)
  pub at : slice_get (value_members s) step.at ≡ Some (member_id id step.name)
  pub m : MemberEntry
  pub member_there : HasEntry g (member_id id step.name) (member_entry m)
  pub is : m.target ≡ step.to

-- a way from a shape to one that isn't served
abbrev pub IsWay : GraphMaps → List ℕ → List WayStep → Type 0
IsWay g id [] = IsUnserved g id
IsWay g id (step ∷ way) = IsStep g id step × IsWay g step.to way

-- the shapes that it enters, and the numbers and names of its members
abbrev pub entered : List ℕ → List WayStep → List (List ℕ)
entered id way = id ∷ map (λ step. step.to) way

abbrev pub numbers_of_way : List WayStep → List ℕ
numbers_of_way way = map (λ step. step.at) way

abbrev pub names_of_way : List WayStep → List (List ℕ)
names_of_way way = map (λ step. step.name) way

-- one that enters no shape twice
abbrev pub IsSimpleWay : GraphMaps → List ℕ → List WayStep → Type 0
IsSimpleWay g root way = IsWay g root way × AllDiffer (entered root way)

-- and that no other of these goes before
pub record IsFirstWay (g : GraphMaps) (root : List ℕ) (way : List WayStep) : Type 0 where
  pub simple : IsSimpleWay g root way
  pub first : (other : List WayStep) → IsSimpleWay g root other → slice_cmp nat_cmp (numbers_of_way other) (numbers_of_way way) ≡ Less → ⊥

-- no shape that isn't served is reached
abbrev pub IsServed : GraphMaps → List ℕ → Type 0
IsServed g root = (way : List WayStep) → IsWay g root way → ⊥
