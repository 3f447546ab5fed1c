-- What a decoder's frame of a map does where a name comes, where the value of a key is closed, and where the map ends. Of all faults the
-- one is kept whose key stands first in byte order.
use Rattle.std.specs.Prelude.{◌≡◌, ℕ, Bool, MatchBool, List, [], ◌∷◌, length, Option, Some, None, IsUtf8}
use Rattle.std.specs.BTreeMap.{insert_entry}
use Rattle.std.specs.Cmp.Lexicographic.{slice_cmp}
use Rattle.std.specs.List.{list_any}
use Rattle.std.specs.List.Sorted.{IsPermutation}
use Rattle.std.specs.Ordering.{nat_cmp, is_le}
use Rattle.std.specs.Str.{bytes_eq}
use Rattle.sm_tree.specs.declared.path.Step.{Step}
use Rattle.sm_tree.specs.declared.path.Step.TheVariants.{Member, Index, Key}
use Rattle.sm_shapes.specs.Values.{Val, text_val, map_val, entries_of}
use Rattle.sm_shapes.specs.TableData.{TableData, ConstraintData}
use Rattle.sm_shapes.specs.Places.{root_place, key_place, kind_of, constraints_of}
use Rattle.sm_shapes.specs.Broken.{Finder, broken, length_broken, first_broken}
use Rattle.sm_shapes.specs.declared.fault.FaultKind.{FaultKind}
use Rattle.sm_shapes.specs.declared.fault.FaultKind.TheVariants.{Repeated}
use Rattle.sm_codec.specs.FaultLists.{FaultAt}
use Rattle.sm_codec.specs.Decoding.{Outcome, good, bad, KeyFrame}
use Rattle.sm_codec.specs.steps.Arrivals.{Arrival, null_comes, value_comes, fault_comes}
use Rattle.sm_codec.specs.steps.EntrySteps.{entry_comes}
use Rattle.sm_codec.specs.steps.LeastFaults.{least_of}

-- the key at which a path begins
abbrev pub first_key : List Step → List ℕ
first_key [] = []
first_key (Key key ∷ path) = key
first_key (Member name ∷ path) = []
first_key (Index i ∷ path) = []

-- a fault of what stands under a key, seen from the map
abbrev pub at_key : List ℕ → FaultAt → FaultAt
at_key key f = (Key key ∷ f.0, f.1)

-- a fault at this key doesn't stand behind the other
abbrev pub goes_first : List ℕ → FaultAt → Bool
goes_first key f = is_le (slice_cmp nat_cmp key (first_key f.0))

-- the first fault of the closed keys in byte order, where the key has this one now
abbrev pub least_at : List ℕ → FaultAt → Option FaultAt → Option FaultAt
least_at key new old = least_of (goes_first key) (at_key key new) old

-- the key is one of those seen
abbrev pub has_key : List ℕ → List (List ℕ) → Bool
has_key key seen = list_any (λ k. bytes_eq key k) seen

-- what the key's own constraints say of the key that came last
abbrev pub JudgesKey : Finder → TableData → ℕ → Option (List ℕ) → Option FaultKind → Type 0
JudgesKey finds t shape current first =
    (key : List ℕ) → current ≡ Some key
    → IsUtf8 key
    × (first
    ≡ first_broken (broken finds (kind_of t (key_place t (root_place shape))) (constraints_of t (key_place t (root_place shape)))
    (text_val key)))

-- a fault of the key itself goes before what its value comes to
abbrev pub pair_comes : Option FaultKind → Arrival → Arrival
pair_comes None x = x
pair_comes (Some kind) x = fault_comes ([], kind)

-- a value, if it comes, goes to its key's place
abbrev pub entries_with : List ℕ → Option Val → List (List ℕ × Val) → List (List ℕ × Val)
entries_with key None es = es
entries_with key (Some v) es = insert_entry (slice_cmp nat_cmp) es key v

-- the entries and the fault of a map, by what comes under a key for the first time
abbrev pub arrived_value : Arrival → Option Val
arrived_value null_comes = None
arrived_value (value_comes v) = Some v
arrived_value (fault_comes f) = None

abbrev pub key_fault : List ℕ → Arrival → Option FaultAt → Option FaultAt
key_fault key null_comes old = old
key_fault key (value_comes v) old = old
key_fault key (fault_comes f) old = least_at key f old

-- the frame knows the key that the next value stands under
abbrev pub IsKeyed : List ℕ → KeyFrame → KeyFrame → Type 0
IsKeyed key f g =
    (g.shape ≡ f.shape) × (g.entries ≡ f.entries) × (g.seen ≡ f.seen) × (g.fault ≡ f.fault) × (g.current ≡ Some key)

-- the frame keeps the fault of what stands under a key, or one before it
abbrev pub KeepsKeyFault : List ℕ → FaultAt → KeyFrame → KeyFrame → Type 0
KeepsKeyFault key new f g =
    (g.shape ≡ f.shape) × (g.entries ≡ f.entries) × (g.seen ≡ f.seen) × (g.current ≡ f.current) × (g.fault ≡ least_at key new f.fault)

-- a key is closed, with a value or without
abbrev pub PutsKey : List ℕ → Option Val → KeyFrame → KeyFrame → Type 0
PutsKey key w f g =
    (g.shape ≡ f.shape) × (g.entries ≡ entries_with key w f.entries) × IsPermutation (key ∷ f.seen) g.seen × (g.fault ≡ f.fault)
    × (g.current ≡ f.current)

-- a tree comes under a key: for the first time, or once more
abbrev pub TakesKeyFirst : List ℕ → Arrival → KeyFrame → KeyFrame → Type 0
TakesKeyFirst key x f g =
    IsPermutation (key ∷ f.seen) g.seen × (g.entries ≡ entries_with key (arrived_value x) f.entries) × (g.fault ≡ key_fault key x f.fault)

abbrev pub TakesKeyAgain : List ℕ → KeyFrame → KeyFrame → Type 0
TakesKeyAgain key f g = (g.seen ≡ f.seen) × (g.entries ≡ f.entries) × (g.fault ≡ least_at key ([], Repeated) f.fault)

abbrev pub TakesKey : List ℕ → Arrival → KeyFrame → KeyFrame → Type 0
TakesKey key x f g =
    (g.shape ≡ f.shape) × (g.current ≡ None) × MatchBool (has_key key f.seen) (TakesKeyAgain key f g) (TakesKeyFirst key x f g)

-- a tree comes under the key that came last
abbrev pub TakesPair : Bool → Option FaultKind → Arrival → KeyFrame → KeyFrame → Type 0
TakesPair sparse first x f g = (key : List ℕ) → f.current ≡ Some key → TakesKey key (pair_comes first (entry_comes sparse x)) f g

-- what a map comes to where it ends: its first fault, else what its number of keys breaks, else its entries
abbrev pub map_ended : List (List ℕ × Val) → Option FaultAt → Option FaultKind → Outcome
map_ended es (Some f) long = bad f
map_ended es None (Some kind) = bad ([], kind)
map_ended es None None = good (map_val (entries_of es))

abbrev pub map_end : ConstraintData → KeyFrame → Outcome
map_end cs f = map_ended f.entries f.fault (first_broken (length_broken cs (length f.seen)))
