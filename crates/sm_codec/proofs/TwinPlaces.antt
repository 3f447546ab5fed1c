-- What places that are twins ask of values alike, and what what stands there comes to by other numbers.
use Rattle.std.proofs.Common.{◌≡◌, ℕ, pos, true, ◌&&◌, List, [], ◌∷◌, ◌++◌, map, length, refl}
use Rattle.std.specs.Prelude.{Option, Result, Ok, Err}
use Rattle.std.specs.Option.{option_map}
use Rattle.std.specs.Str.{chars}
use Rattle.sm_shapes.specs.Broken.{broken, is_at_least, is_at_most, length_broken, number_broken, text_broken}
use Rattle.sm_shapes.specs.Broken.{unless}
use Rattle.sm_shapes.specs.Fitting.{Test, finder}
use Rattle.sm_shapes.specs.Places.{Place}
use Rattle.sm_shapes.specs.TableData.{ConstraintData, TableData}
use Rattle.sm_shapes.specs.Values.{Val, null_val, bool_val, int_val, text_val, blob_val, time_val, list_val, map_val, structure_val}
use Rattle.sm_shapes.specs.Values.{each_val, keys_of, union_val}
use Rattle.sm_shapes.specs.declared.fault.FaultKind.TheVariants.{Length, Range}
use Rattle.sm_shapes.specs.declared.kinds.ShapeKind.{ShapeKind}
use Rattle.sm_codec.specs.Convention.{is_of}
use Rattle.sm_codec.specs.FaultLists.{FaultAt, Reading, faults_in, settled, values_in}
use Rattle.sm_codec.specs.Readings.{Child}
use Rattle.sm_codec.specs.declared.simple.Simple.{Simple}
use Rattle.sm_codec.specs.declared.simple.Simple.TheVariants as the
use Rattle.sm_codec.specs.steps.Twins.{AreTwins, SayAlike, moved, moved_reading}

-- what values break
module _ (t u : TableData) (test : Test) (c d : ConstraintData) (h : SayAlike t u test c d) where
  pub lengths_alike : (n : ℕ) → length_broken c n ≡ length_broken d n
  lengths_alike n = λ i. unless (is_at_least (h.min i) (pos n) && is_at_most (h.max i) (pos n)) Length

  pub breaks_alike : (kind other : ShapeKind) → kind ≡ other → (v : Val)
      → broken (finder t test) kind c v ≡ broken (finder u test) other d v
  breaks_alike kind other e null_val = refl
  breaks_alike kind other e (bool_val b) = refl
  breaks_alike kind other e (int_val z) =
      λ i. unless (is_at_least (h.min i) z && is_at_most (h.max i) z) Range ++ number_broken (e i) (h.numbers i) z
  breaks_alike kind other e (text_val x) =
      let a = lengths_alike (length (chars x)) in let b = h.pattern x in λ i. a i ++ b i ++ text_broken (e i) (h.texts i) x
  breaks_alike kind other e (blob_val x) = lengths_alike (length x)
  breaks_alike kind other e (time_val ms) = refl
  breaks_alike kind other e (list_val vs) = lengths_alike (length (each_val vs))
  breaks_alike kind other e (map_val es) = lengths_alike (length (keys_of es))
  breaks_alike kind other e (structure_val fs) = refl
  breaks_alike kind other e (union_val k v) = refl

-- what stands in trees, read by both tables
pub record ChildTwins (t u : TableData) (test : Test) (f : ℕ → ℕ) (Good : ℕ → Type 0) (a b : Child) : Type 0 where
  pub nulls : a.null ≡ b.null
  pub readings : (p q : Place) → AreTwins t u test f Good p q → moved_reading f (a.reading p) ≡ b.reading q

-- what a member comes to, by the other numbers
abbrev pub Came : Type 0
Came = Result (Option Val) (List FaultAt)

abbrev pub moved_member : (ℕ → ℕ) → Came → Came
moved_member f (Ok o) = Ok (option_map (moved f) o)
moved_member f (Err fs) = Err fs

module _ (f : ℕ → ℕ) where
  pub faults_kept : (r : Reading) → faults_in r ≡ faults_in (moved_reading f r)
  faults_kept (Ok v) = refl
  faults_kept (Err fs) = refl

  pub values_kept : (r : Reading) → map (moved f) (values_in r) ≡ values_in (moved_reading f r)
  values_kept (Ok v) = refl
  values_kept (Err fs) = refl

  pub settled_moved : (fs : List FaultAt) (v : Val) → moved_reading f (settled fs v) ≡ settled fs (moved f v)
  settled_moved [] v = refl
  settled_moved (g ∷ fs) v = refl

  -- what a leaf spells has no members
  pub simple_stays : (x : Simple) (v : Val) → is_of x v ≡ true → moved f v ≡ v
  simple_stays x null_val h = refl
  simple_stays x (bool_val b) h = refl
  simple_stays x (int_val z) h = refl
  simple_stays x (text_val w) h = refl
  simple_stays x (blob_val w) h = refl
  simple_stays x (time_val ms) h = refl
  simple_stays the.Blob (list_val vs) h = absurd cc
  simple_stays the.Boolean (list_val vs) h = absurd cc
  simple_stays the.Text (list_val vs) h = absurd cc
  simple_stays (the.Number bits) (list_val vs) h = absurd cc
  simple_stays (the.Time format) (list_val vs) h = absurd cc
  simple_stays the.Blob (map_val es) h = absurd cc
  simple_stays the.Boolean (map_val es) h = absurd cc
  simple_stays the.Text (map_val es) h = absurd cc
  simple_stays (the.Number bits) (map_val es) h = absurd cc
  simple_stays (the.Time format) (map_val es) h = absurd cc
  simple_stays the.Blob (structure_val fs) h = absurd cc
  simple_stays the.Boolean (structure_val fs) h = absurd cc
  simple_stays the.Text (structure_val fs) h = absurd cc
  simple_stays (the.Number bits) (structure_val fs) h = absurd cc
  simple_stays (the.Time format) (structure_val fs) h = absurd cc
  simple_stays the.Blob (union_val k v) h = absurd cc
  simple_stays the.Boolean (union_val k v) h = absurd cc
  simple_stays the.Text (union_val k v) h = absurd cc
  simple_stays (the.Number bits) (union_val k v) h = absurd cc
  simple_stays (the.Time format) (union_val k v) h = absurd cc
