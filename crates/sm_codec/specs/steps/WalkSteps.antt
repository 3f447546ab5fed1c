-- A tree that comes whole where the next is due: it is walked there, and its lists and objects have frames while they are walked.
use Rattle.std.specs.Prelude.{◌≡◌, ℕ, Bool, true, false, List, [], ◌∷◌, ◌++◌, None}
use Rattle.sm_tree.specs.Node.{Node, list, object}
use Rattle.sm_shapes.specs.TableData.{TableData}
use Rattle.sm_shapes.specs.Places.{Place}
use Rattle.sm_codec.specs.Sorts.{Sort, simple, a_list, a_map, a_structure, a_union, left_out}
use Rattle.sm_codec.specs.Codec.{Codec, InTable}
use Rattle.sm_codec.specs.Decoding.{Frame, Decoding}
use Rattle.sm_codec.specs.Kept.{FrameHolds}
use Rattle.sm_codec.specs.Named.{is_null}
use Rattle.sm_codec.specs.Readings.{reading}
use Rattle.sm_codec.specs.Walk.{Level, list_level, object_level}
use Rattle.sm_codec.specs.steps.Arrivals.{Arrival, IsArrival}
use Rattle.sm_codec.specs.steps.DecoderSteps.{place_among, FirstCanTake, TakenBy}

-- lists and objects open at places of these sorts
abbrev pub is_list : Sort → Bool
is_list a_list = true
is_list (simple x) = false
is_list a_map = false
is_list a_structure = false
is_list a_union = false
is_list left_out = false

abbrev pub is_object : Sort → Bool
is_object a_map = true
is_object a_structure = true
is_object a_union = true
is_object (simple x) = false
is_object a_list = false
is_object left_out = false

-- a tree that doesn't open at a place of this sort
abbrev pub IsLeafAt : Sort → Node → Type 0
IsLeafAt s (list ns) = is_list s ≡ false
IsLeafAt s (object ms) = is_object s ≡ false
IsLeafAt s n = Unit {0}

-- the place of the next tree
abbrev pub next_place : TableData → Decoding → Place
next_place t d = place_among t d.shape d.frames

-- a tree may come there
abbrev pub WalkReady : TableData → Decoding → Type 0
WalkReady t d = InTable t (next_place t d) × FirstCanTake t d.frames × (d.result ≡ None)

-- the tree was read there, and taken
abbrev pub TreeTaken : Codec → Node → Decoding → Decoding → Type 0
TreeTaken c n d e =
    (x : Arrival) × IsArrival (is_null n) (reading c n (next_place c.table d)) x × TakenBy c.table c.test x d.frames e

-- the innermost frame is that of a level, with these frames below
abbrev pub LevelAt : Codec → Place → Level → List Frame → Decoding → Type 0
LevelAt c p l fs d = (d.result ≡ None) × ((f : Frame) × (d.frames ≡ f ∷ fs) × FrameHolds c p l f)

-- of a list all entries but these are closed, and of an object all pairs but these
abbrev pub ListSoFar : Codec → Place → List Frame → List Node → List Node → Decoding → Type 0
ListSoFar c p fs all rest d = (ns : List Node) × (ns ++ rest ≡ all) × LevelAt c p (list_level ns []) fs d

abbrev pub PairsSoFar : Codec → Place → List Frame → List (List ℕ × Node) → List (List ℕ × Node) → Decoding → Type 0
PairsSoFar c p fs all rest d = (ms : List (List ℕ × Node)) × (ms ++ rest ≡ all) × LevelAt c p (object_level ms) fs d

-- a pair may come, and came
abbrev pub PairReady : Codec → Decoding → Type 0
PairReady c d = (p : Place) × (ms : List (List ℕ × Node)) × (fs : List Frame) × InTable c.table p × LevelAt c p (object_level ms) fs d

abbrev pub PairTaken : Codec → List ℕ → Node → Decoding → Decoding → Type 0
PairTaken c name n d e =
    (p : Place) (ms : List (List ℕ × Node)) (fs : List Frame) → InTable c.table p → LevelAt c p (object_level ms) fs d
    → LevelAt c p (object_level (ms ++ (name, n) ∷ [])) fs e
