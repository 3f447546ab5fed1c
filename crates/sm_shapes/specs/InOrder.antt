-- When a table is in order, and when a store of patterns is the one that it was built with.
use Rattle.std.specs.Prelude.{◌≡◌, ◌⊎◌, ℕ, ◌<◌, Bool, ◌||◌, List, [], ◌∷◌, map, length, Option, Some, None, is_some, IsUtf8, ◌+◌, max}
use Rattle.std.specs.List.{Contains, filter}
use Rattle.std.specs.List.Sorted.{IsPermutation, IsStrictlySortedBy}
use Rattle.std.specs.Ordering.{nat_cmp}
use Rattle.std.specs.Cmp.Lexicographic.{slice_cmp}
use Rattle.sm_tree.specs.Node.{Node, list, object, no_nodes, no_members}
use Rattle.sm_shapes.specs.Names.{AllDiffer}
use Rattle.sm_shapes.specs.Patterns.{pattern_text}
use Rattle.sm_shapes.specs.Values.{Val, list_val, map_val, no_vals, no_entries}
use Rattle.sm_shapes.specs.TableData.{TableData, ShapeData, shape_count, member_count, kind_at, members_at, by_name_at, by_json_name_at}
use Rattle.sm_shapes.specs.TableData.{needed_at, required_at, shape_constraints_at, home_at, name_at, json_name_at, target_at}
use Rattle.sm_shapes.specs.TableData.{constraints_at, binding_at, default_node_at, default_at, texts_numbered, count_of_default}
use Rattle.sm_shapes.specs.Places.{member_place}
use Rattle.sm_shapes.specs.Fitting.{Test, any_text, Fits, MeetsConstraints}
use Rattle.sm_shapes.specs.declared.kinds.ShapeKind.{ShapeKind}
use Rattle.sm_shapes.specs.declared.kinds.ShapeKind.TheVariants.{Text, Enum, List as a_list, Map as a_map, Structure, Union, LeftOut}

-- each is the number of a member that stands in the shape s
abbrev pub AreMembersOf : TableData → ℕ → List ℕ → Type 0
AreMembersOf t s [] = Unit {0}
AreMembersOf t s (k ∷ ks) = (k < member_count t) × (home_at t k ≡ s) × AreMembersOf t s ks

-- a shape of this kind is one whose values are texts
abbrev pub IsTextKind : ShapeKind → Type 0
IsTextKind kind = (kind ≡ Text) ⊎ (kind ≡ Enum)

-- a list has one member, a map its key, which is a string or an enum, and its value
abbrev pub HasItsMembers : TableData → ShapeKind → List ℕ → Type 0
HasItsMembers t a_list (k ∷ []) = Unit {0}
HasItsMembers t a_list ks = ⊥
HasItsMembers t a_map (j ∷ k ∷ []) = IsTextKind (kind_at t (target_at t j))
HasItsMembers t a_map ks = ⊥
HasItsMembers t kind ks = Unit {0}

-- these are the members in the byte order of their names
abbrev pub AreByName : (ℕ → List ℕ) → List ℕ → List ℕ → Type 0
AreByName name ks ordered = IsPermutation ordered ks × IsStrictlySortedBy (slice_cmp nat_cmp) (map name ordered)

-- a member that an object without its name doesn't just leave out: it is required, or it has a default or the node of one
abbrev pub is_needed : TableData → ℕ → Bool
is_needed t k = required_at t k || (is_some (default_node_at t k) || is_some (default_at t k))

-- the constraints name a pattern of the table, or none
abbrev pub NamesPattern : TableData → Option ℕ → Type 0
NamesPattern t None = Unit {0}
NamesPattern t (Some n) = (u : List ℕ) × (texts_numbered n t.patterns ≡ u ∷ [])

-- `[]` or `{}`
abbrev pub IsEmptyNode : Node → Type 0
IsEmptyNode n = (n ≡ list no_nodes) ⊎ (n ≡ object no_members)

-- a member whose target is of this kind may have this default node, and this default
abbrev pub MayHaveNode : ShapeKind → Node → Type 0
MayHaveNode a_list n = IsEmptyNode n
MayHaveNode a_map n = IsEmptyNode n
MayHaveNode Structure n = ⊥
MayHaveNode Union n = ⊥
MayHaveNode LeftOut n = ⊥
MayHaveNode kind n = Unit {0}

abbrev pub MayHaveDefault : ShapeKind → Val → Type 0
MayHaveDefault a_list v = v ≡ list_val no_vals
MayHaveDefault a_map v = v ≡ map_val no_entries
MayHaveDefault Structure v = ⊥
MayHaveDefault Union v = ⊥
MayHaveDefault LeftOut v = ⊥
MayHaveDefault kind v = Unit {0}

-- the member is a structure's, and HTTP carries it in the document
abbrev pub MayDefault : TableData → ℕ → Type 0
MayDefault t k = (kind_at t (home_at t k) ≡ Structure) × (binding_at t k ≡ None)

-- Each number is in range. A member stands in one shape, the one that it names, and once; the numbers of one shape's members rise, so that
-- model order is their order, and they are kept in the order of their names too, and those apart that are needed. A list has one member, a map its key and its
-- value, and the key's target is a string or an enum. The names of one shape's members differ, and so do their names where JSON
-- names are looked at. A pattern's number stands once among the patterns. A default stands only on a structure's member that has no
-- binding and whose target is a simple type, a list or a map; a list's or a map's is empty. Each default fits its member, but for
-- its pattern. All names are texts in UTF-8.
pub record Shaped (t : TableData) : Type 0 where
  pub targets : (k : ℕ) → k < member_count t → target_at t k < shape_count t
  pub homes : (k : ℕ) → k < member_count t → (home_at t k < shape_count t) × Contains (members_at t (home_at t k)) k
  pub members : (s : ℕ) → s < shape_count t → AreMembersOf t s (members_at t s)
  pub rises : (s : ℕ) → s < shape_count t → IsStrictlySortedBy nat_cmp (members_at t s)
  pub by_name : (s : ℕ) → s < shape_count t → AreByName (name_at t) (members_at t s) (by_name_at t s)
  pub by_json_name : (s : ℕ) → s < shape_count t → AreByName (json_name_at t) (members_at t s) (by_json_name_at t s)
  pub needed : (s : ℕ) → s < shape_count t → needed_at t s ≡ filter (is_needed t) (members_at t s)
  pub own : (s : ℕ) → s < shape_count t → HasItsMembers t (kind_at t s) (members_at t s)
  pub names : (s : ℕ) → s < shape_count t → AllDiffer (map (name_at t) (members_at t s))
  pub json_names : (s : ℕ) → s < shape_count t → AllDiffer (map (json_name_at t) (members_at t s))
  pub utf8 : (k : ℕ) → k < member_count t → IsUtf8 (name_at t k) × IsUtf8 (json_name_at t k)
  pub shape_patterns : (s : ℕ) → s < shape_count t → NamesPattern t (shape_constraints_at t s).pattern
  pub member_patterns : (k : ℕ) → k < member_count t → NamesPattern t (constraints_at t k).pattern
  pub nodes : (k : ℕ) (n : Node) → default_node_at t k ≡ Some n → MayDefault t k × MayHaveNode (kind_at t (target_at t k)) n
  pub values : (k : ℕ) (v : Val) → default_at t k ≡ Some v → MayDefault t k × MayHaveDefault (kind_at t (target_at t k)) v
  pub fit : (k : ℕ) (v : Val) → default_at t k ≡ Some v → Fits t any_text (member_place k) v

-- each pattern's number names its text in the store
abbrev pub AreStored : List (ℕ × List ℕ) → List (List ℕ) → Type 0
AreStored [] added = Unit {0}
AreStored (p ∷ ps) added = (p.0 < length added) × (pattern_text added p.0 ≡ p.1) × AreStored ps added

-- each default passes its member's pattern
abbrev pub DefaultsPass : TableData → Test → Type 0
DefaultsPass t test = (k : ℕ) (v : Val) → default_at t k ≡ Some v → MeetsConstraints t test (member_place k) v

-- the store has the table's patterns, and each default passes its member's pattern by the store's test
pub record Built (t : TableData) (added : List (List ℕ)) (test : Test) : Type 0 where
  pub stored : AreStored t.patterns added
  pub defaults : DefaultsPass t test

-- how many of these members have a default
abbrev pub defaults_among : TableData → List ℕ → ℕ
defaults_among t [] = 0
defaults_among t (k ∷ ks) = count_of_default (default_at t k) + defaults_among t ks

abbrev pub most_among : TableData → List ShapeData → ℕ
most_among t [] = 0
most_among t (s ∷ ss) = max (defaults_among t s.members) (most_among t ss)

-- the greatest number of defaults in one structure
abbrev pub most_defaults : TableData → ℕ
most_defaults t = most_among t t.shapes
