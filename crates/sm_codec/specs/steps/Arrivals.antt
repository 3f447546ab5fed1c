-- What a tree comes to where it is due: at a place; under a tag; or in what is passed over, which has a fault of its own or none.
use Rattle.std.specs.Prelude.{◌≡◌, ℕ, Bool, true, false, List, [], ◌∷◌, ◌++◌, Some, None, Ok, Err}
use Rattle.sm_tree.specs.Node.{Node, tag}
use Rattle.sm_tree.specs.Building.{tagged}
use Rattle.sm_codec.specs.Codec.{Codec}
use Rattle.sm_codec.specs.Named.{is_null}
use Rattle.sm_shapes.specs.Values.{Val}
use Rattle.sm_codec.specs.FaultLists.{FaultAt, Reading}
use Rattle.sm_codec.specs.Decoding.{Outcome, good, bad}
use Rattle.sm_codec.specs.Readings.{one_here, reading}
use Rattle.sm_codec.specs.Walk.{Level, list_level, object_level, pair_level, Due, due_at, due_tagged, due_passed, due_nowhere}

-- a tree is known to be null at a place alone
abbrev pub null_where : Due → Node → Bool
null_where (due_at p) n = is_null n
null_where (due_tagged p x k) n = false
null_where (due_passed depth report) n = false
null_where due_nowhere n = false

-- under no name of a member, and where no tree is due, this says nothing
abbrev pub read_where : Codec → Due → Node → Reading
read_where c (due_at p) n = reading c n p
read_where c (due_tagged p x k) n = reading c (tag k n) p
read_where c (due_passed depth (Some kind)) n = Err (one_here kind)
read_where c (due_passed depth None) n = Err []
read_where c due_nowhere n = Err []

-- a level behind a tree, in the tags that have come
abbrev pub level_with : Node → Level → Level
level_with n (list_level ns ts) = list_level (ns ++ tagged ts n ∷ []) []
level_with n (object_level ms) = object_level ms
level_with n (pair_level ms name ts) = object_level (ms ++ (name, tagged ts n) ∷ [])

-- and behind one tag more
abbrev pub level_tagged : ℕ → Level → Level
level_tagged k (list_level ns ts) = list_level ns (ts ++ k ∷ [])
level_tagged k (object_level ms) = object_level ms
level_tagged k (pair_level ms name ts) = pair_level ms name (ts ++ k ∷ [])

-- what a tree that is closed comes to, as far as a frame is told: null, a value, or the first fault
pub data Arrival : Type 0 where
  null_comes : Arrival
  value_comes : Val → Arrival
  fault_comes : FaultAt → Arrival

abbrev pub IsArrival : Bool → Reading → Arrival → Type 0
IsArrival null found null_comes = null ≡ true
IsArrival null found (value_comes v) = (null ≡ false) × (found ≡ Ok v)
IsArrival null found (fault_comes f) = (null ≡ false) × ((fs : List FaultAt) × (found ≡ Err (f ∷ fs)))

-- the same of a tree that isn't null, by its outcome
abbrev pub comes : Outcome → Arrival
comes (good v) = value_comes v
comes (bad f) = fault_comes f
