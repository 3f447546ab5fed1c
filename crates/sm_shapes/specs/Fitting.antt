-- Which values a place has: those of its shape's kind and width that break no constraint. A structure has each member that is
-- required and each that has a default.
use Rattle.std.specs.Prelude.{◌≡◌, ℕ, Bool, true, false, List, [], ◌∷◌, ◌++◌, None, IsUtf8, FitsSigned}
use Rattle.std.specs.Int.{w8, w16, w32, w64}
use Rattle.std.specs.Ordering.{nat_cmp}
use Rattle.std.specs.Cmp.Lexicographic.{slice_cmp}
use Rattle.std.specs.List.{Contains}
use Rattle.std.specs.List.Sorted.{IsStrictlySortedBy}
use Rattle.sm_tree.specs.Json.{AreBytes}
use Rattle.sm_time.specs.TimeText.{IsStamp}
use Rattle.sm_shapes.specs.Values.{Val, Vals, EntryVals, FieldVals, null_val, bool_val, int_val, text_val, blob_val, time_val, list_val}
use Rattle.sm_shapes.specs.Values.{map_val, structure_val, union_val, no_vals, val, no_entries, entry, no_fields, field, each_val}
use Rattle.sm_shapes.specs.Values.{keys_of}
use Rattle.sm_shapes.specs.TableData.{TableData, pattern_at, required_at, default_at}
use Rattle.sm_shapes.specs.Places.{Place, member_place, kind_of, members_of_place, constraints_of, unique_of, sparse_of, entry_place}
use Rattle.sm_shapes.specs.Places.{key_place, value_place}
use Rattle.sm_shapes.specs.Broken.{Finder, broken}
use Rattle.sm_shapes.specs.declared.kinds.ShapeKind.{ShapeKind}
use Rattle.sm_shapes.specs.declared.kinds.ShapeKind.TheVariants.{Blob, Boolean, Text, Enum, Byte, Short, Integer, IntEnum, Long}
use Rattle.sm_shapes.specs.declared.kinds.ShapeKind.TheVariants.{Timestamp, List as a_list, Map as a_map, Structure, Union}

-- whether a pattern's text finds a text: the one test of a type of stores
abbrev pub Test : Type 0
Test = List ℕ → List ℕ → Bool

-- the test by the numbers of a table's patterns
abbrev pub finder : TableData → Test → Finder
finder t test n u = test (pattern_at t n) u

-- the test that every text passes: with it nothing is said of patterns
abbrev pub any_text : Test
any_text pattern u = true

-- a simple value is of this kind, and a whole number of its width
abbrev pub IsOfKind : ShapeKind → Val → Type 0
IsOfKind Blob (blob_val u) = AreBytes u
IsOfKind Boolean (bool_val b) = Unit {0}
IsOfKind Text (text_val u) = IsUtf8 u
IsOfKind Enum (text_val u) = IsUtf8 u
IsOfKind Byte (int_val z) = FitsSigned w8 z
IsOfKind Short (int_val z) = FitsSigned w16 z
IsOfKind Integer (int_val z) = FitsSigned w32 z
IsOfKind IntEnum (int_val z) = FitsSigned w32 z
IsOfKind Long (int_val z) = FitsSigned w64 z
IsOfKind Timestamp (time_val ms) = IsStamp ms
IsOfKind kind v = ⊥

-- no value is another one behind it
abbrev pub NoneIsLike : Val → List Val → Type 0
NoneIsLike v [] = Unit {0}
NoneIsLike v (w ∷ ws) = (w ≡ v → ⊥) × NoneIsLike v ws

abbrev pub AllUnlike : List Val → Type 0
AllUnlike [] = Unit {0}
AllUnlike (v ∷ vs) = NoneIsLike v vs × AllUnlike vs

-- each of these members may be left out: it isn't required and has no default
abbrev pub MayBeAbsent : TableData → List ℕ → Type 0
MayBeAbsent t [] = Unit {0}
MayBeAbsent t (k ∷ ks) = (required_at t k ≡ false) × (default_at t k ≡ None) × MayBeAbsent t ks

-- the value at a place breaks no constraint
abbrev pub MeetsConstraints : TableData → Test → Place → Val → Type 0
MeetsConstraints t test p v = broken (finder t test) (kind_of t p) (constraints_of t p) v ≡ []

-- what holds of an entry's value holds, or it is null in a sparse list or map
abbrev pub FitsOrNull : Bool → Type 0 → Val → Type 0
FitsOrNull sparse holds null_val = sparse ≡ true
FitsOrNull sparse holds v = holds

abbrev mutual
  -- the value is one of the place
  pub Fits : TableData → Test → Place → Val → Type 0
  Fits t test p null_val = ⊥
  Fits t test p (bool_val b) = IsOfKind (kind_of t p) (bool_val b) × MeetsConstraints t test p (bool_val b)
  Fits t test p (int_val z) = IsOfKind (kind_of t p) (int_val z) × MeetsConstraints t test p (int_val z)
  Fits t test p (text_val u) = IsOfKind (kind_of t p) (text_val u) × MeetsConstraints t test p (text_val u)
  Fits t test p (blob_val u) = IsOfKind (kind_of t p) (blob_val u) × MeetsConstraints t test p (blob_val u)
  Fits t test p (time_val ms) = IsOfKind (kind_of t p) (time_val ms) × MeetsConstraints t test p (time_val ms)
  Fits t test p (list_val vs) =
      (kind_of t p ≡ a_list) × MeetsConstraints t test p (list_val vs) × (unique_of t p ≡ true → AllUnlike (each_val vs))
      × FitEntries t test p vs
  Fits t test p (map_val es) =
      (kind_of t p ≡ a_map) × MeetsConstraints t test p (map_val es) × IsStrictlySortedBy (slice_cmp nat_cmp) (keys_of es)
      × FitPairs t test p es
  Fits t test p (structure_val fs) = (kind_of t p ≡ Structure) × FitFields t test (members_of_place t p) fs
  Fits t test p (union_val k v) =
      (kind_of t p ≡ Union) × Contains (members_of_place t p) k × Fits t test (member_place k) v

  -- the entries are of the list at this place
  pub FitEntries : TableData → Test → Place → Vals → Type 0
  FitEntries t test p no_vals = Unit {0}
  FitEntries t test p (val v vs) = FitsOrNull (sparse_of t p) (Fits t test (entry_place t p) v) v × FitEntries t test p vs

  -- the keys and values are of the map at this place
  pub FitPairs : TableData → Test → Place → EntryVals → Type 0
  FitPairs t test p no_entries = Unit {0}
  FitPairs t test p (entry key v es) =
      IsOfKind (kind_of t (key_place t p)) (text_val key) × MeetsConstraints t test (key_place t p) (text_val key)
      × FitsOrNull (sparse_of t p) (Fits t test (value_place t p) v) v × FitPairs t test p es

  -- the fields are of these members, in their order, and each member that is left out may be
  pub FitFields : TableData → Test → List ℕ → FieldVals → Type 0
  FitFields t test ks no_fields = MayBeAbsent t ks
  FitFields t test ks (field k v fs) =
      (skipped rest : List ℕ) × (ks ≡ skipped ++ k ∷ rest) × MayBeAbsent t skipped × Fits t test (member_place k) v
      × FitFields t test rest fs
