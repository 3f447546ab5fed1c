-- Places of two tables that stand for one thing, though members have other numbers: one is the other's twin. Which members have twins is
-- said by number; a tree then comes to the same at places that are twins, but for the numbers of members (proofs/TwinReadings.antt).
use Rattle.std.specs.Prelude.{◌≡◌, ℕ, List, map, length, Ok, Err}
use Rattle.std.specs.List.{AllByRecursion}
use Rattle.std.specs.Option.{option_map}
use Rattle.sm_shapes.specs.Broken.{pattern_broken}
use Rattle.sm_shapes.specs.Fitting.{Test, finder}
use Rattle.sm_shapes.specs.Places.{Place, member_place, constraints_of, format_of, kind_of, members_of_place, sparse_of, unique_of}
use Rattle.sm_shapes.specs.TableData.{ConstraintData, TableData, default_at, json_name_at, name_at, required_at}
use Rattle.sm_shapes.specs.Values.{Val, Vals, EntryVals, FieldVals, null_val, bool_val, int_val, text_val, blob_val, time_val, list_val}
use Rattle.sm_shapes.specs.Values.{map_val, structure_val, union_val, no_vals, val, no_entries, entry, no_fields, field}
use Rattle.sm_shapes.specs.declared.kinds.ShapeKind.TheVariants as kinds
use Rattle.sm_codec.specs.FaultLists.{Reading}

abbrev mutual
  -- the value with the numbers that its members are moved to
  pub moved : (ℕ → ℕ) → Val → Val
  moved f null_val = null_val
  moved f (bool_val b) = bool_val b
  moved f (int_val z) = int_val z
  moved f (text_val u) = text_val u
  moved f (blob_val u) = blob_val u
  moved f (time_val ms) = time_val ms
  moved f (list_val vs) = list_val (moved_vals f vs)
  moved f (map_val es) = map_val (moved_entries f es)
  moved f (structure_val fs) = structure_val (moved_fields f fs)
  moved f (union_val k v) = union_val (f k) (moved f v)

  pub moved_vals : (ℕ → ℕ) → Vals → Vals
  moved_vals f no_vals = no_vals
  moved_vals f (val v vs) = val (moved f v) (moved_vals f vs)

  pub moved_entries : (ℕ → ℕ) → EntryVals → EntryVals
  moved_entries f no_entries = no_entries
  moved_entries f (entry key v es) = entry key (moved f v) (moved_entries f es)

  pub moved_fields : (ℕ → ℕ) → FieldVals → FieldVals
  moved_fields f no_fields = no_fields
  moved_fields f (field k v fs) = field (f k) (moved f v) (moved_fields f fs)

-- constraints that say alike of values
pub record SayAlike (t u : TableData) (test : Test) (c d : ConstraintData) : Type 0 where
  pub min : c.min ≡ d.min
  pub max : c.max ≡ d.max
  pub pattern : (x : List ℕ) → pattern_broken (finder t test) c.pattern x ≡ pattern_broken (finder u test) d.pattern x
  pub texts : c.texts ≡ d.texts
  pub numbers : c.numbers ≡ d.numbers

-- a place and its twin, whose members are those of the place by their other numbers
pub record AreTwins (t u : TableData) (test : Test) (f : ℕ → ℕ) (Good : ℕ → Type 0) (p q : Place) : Type 0 where
  pub kind : kind_of t p ≡ kind_of u q
  pub format : format_of t p ≡ format_of u q
  pub unique : unique_of t p ≡ unique_of u q
  pub sparse : sparse_of t p ≡ sparse_of u q
  pub constraints : SayAlike t u test (constraints_of t p) (constraints_of u q)
  pub members : map f (members_of_place t p) ≡ members_of_place u q
  pub good : AllByRecursion Good (members_of_place t p)
  pub one : kind_of t p ≡ kinds.List → length (members_of_place t p) ≡ 1
  pub two : kind_of t p ≡ kinds.Map → length (members_of_place t p) ≡ 2

-- members that have twins
pub record HaveTwins (t u : TableData) (test : Test) (f : ℕ → ℕ) (Good : ℕ → Type 0) : Type 0 where
  pub name : (k : ℕ) → Good k → name_at t k ≡ name_at u (f k)
  pub json_name : (k : ℕ) → Good k → json_name_at t k ≡ json_name_at u (f k)
  pub required : (k : ℕ) → Good k → required_at t k ≡ required_at u (f k)
  pub default : (k : ℕ) → Good k → option_map (moved f) (default_at t k) ≡ default_at u (f k)
  pub member : (k : ℕ) → Good k → AreTwins t u test f Good (member_place k) (member_place (f k))

-- a reading by the other numbers
abbrev pub moved_reading : (ℕ → ℕ) → Reading → Reading
moved_reading f (Ok v) = Ok (moved f v)
moved_reading f (Err fs) = Err fs
