-- What the methods of a decoder do, by its frames alone: where the next tree is due, what the innermost frame takes, and what it comes to
-- where its list or object ends. The innermost frame stands first.
use Rattle.std.specs.Prelude.{◌≡◌, ℕ, zero, suc, ◌<◌, ◌-◌, List, [], ◌∷◌, Option, Some, None, unwrap_or}
use Rattle.sm_shapes.specs.FieldPuts.{FieldsRise}
use Rattle.sm_shapes.specs.Fitting.{Test, finder}
use Rattle.sm_shapes.specs.TableData.{TableData, shape_count, member_count, kind_at, unique_at, sparse_at}
use Rattle.sm_shapes.specs.Places.{Place, root_place, constraints_of}
use Rattle.sm_shapes.specs.declared.fault.FaultKind.{FaultKind}
use Rattle.sm_shapes.specs.declared.fault.FaultKind.TheVariants.{WrongType}
use Rattle.sm_shapes.specs.declared.kinds.ShapeKind.TheVariants.{Map}
use Rattle.sm_codec.specs.declared.simple.Simple.{Simple}
use Rattle.sm_codec.specs.Codec.{InTable}
use Rattle.sm_codec.specs.Decoding.{Outcome, good, bad, MemberFrame, EntryFrame, KeyFrame, Frame, structure_frame, union_frame}
use Rattle.sm_codec.specs.Decoding.{list_frame, map_frame, tagged_frame, skip_frame, Decoding}
use Rattle.sm_codec.specs.Walk.{Due, due_at, due_tagged, due_passed}
use Rattle.sm_codec.specs.steps.Arrivals.{Arrival, null_comes, value_comes, fault_comes, comes}
use Rattle.sm_codec.specs.steps.ClosingSteps.{structure_end}
use Rattle.sm_codec.specs.steps.EntrySteps.{TakesEntry, list_end}
use Rattle.sm_codec.specs.steps.MapSteps.{JudgesKey, TakesPair, map_end}
use Rattle.sm_codec.specs.steps.MemberSteps.{TakesMember}
use Rattle.sm_codec.specs.steps.Standing.{place_in}
use Rattle.sm_codec.specs.steps.UnionSteps.{ChoosesMember, union_end}

-- the place of the next tree: the innermost frame knows it, and without one it is the root's
abbrev pub place_among : TableData → ℕ → List Frame → Place
place_among t s [] = root_place s
place_among t s (f ∷ fs) = unwrap_or (place_in t f) (root_place s)

-- where the next tree is due, as frames tell it: at a place; under a tag there; in what is passed over
pub data Told : Type 0 where
  told_at : Place → Told
  told_tagged : Place → ℕ → Told
  told_passed : ℕ → Option FaultKind → Told

abbrev pub due_told : TableData → ℕ → List Frame → Told
due_told t s [] = told_at (root_place s)
due_told t s (structure_frame f ∷ fs) = told_at (place_among t s (structure_frame f ∷ fs))
due_told t s (union_frame f ∷ fs) = told_at (place_among t s (union_frame f ∷ fs))
due_told t s (list_frame f ∷ fs) = told_at (place_among t s (list_frame f ∷ fs))
due_told t s (map_frame f ∷ fs) = told_at (place_among t s (map_frame f ∷ fs))
due_told t s (tagged_frame n k ∷ fs) = told_tagged (place_among t s fs) k
due_told t s (skip_frame depth report ∷ fs) = told_passed depth report

-- the next tree is due there
abbrev pub Tells : Told → Due → Type 0
Tells (told_at p) due = due ≡ due_at p
Tells (told_tagged p k) due = (x : Simple) × (due ≡ due_tagged p x k)
Tells (told_passed depth report) due = due ≡ due_passed depth report

-- a tree may be brought to the frame: it knows its place, and its numbers are the table's
abbrev pub HasMember : TableData → Option ℕ → Type 0
HasMember t None = ⊥
HasMember t (Some k) = k < member_count t

abbrev pub CanTake : TableData → Frame → Type 0
CanTake t (structure_frame f) = (f.shape < shape_count t) × FieldsRise f.fields × HasMember t f.current
CanTake t (union_frame f) = (f.shape < shape_count t) × HasMember t f.current
CanTake t (list_frame f) = f.shape < shape_count t
CanTake t (map_frame f) = (f.shape < shape_count t) × (kind_at t f.shape ≡ Map)
CanTake t (tagged_frame s k) = ⊥
CanTake t (skip_frame depth report) = ⊥

abbrev pub FirstCanTake : TableData → List Frame → Type 0
FirstCanTake t [] = Unit {0}
FirstCanTake t (f ∷ fs) = CanTake t f

-- it takes the tree
abbrev pub ForCurrent : Option ℕ → (ℕ → Type 0) → Type 0
ForCurrent None P = ⊥
ForCurrent (Some k) P = P k

abbrev pub FrameTakes : TableData → Test → Arrival → Frame → Frame → Type 0
FrameTakes t test x (structure_frame f) g =
    (h : MemberFrame) × (g ≡ structure_frame h) × ForCurrent f.current (λ k. TakesMember t k x f h)
FrameTakes t test x (union_frame f) g =
    (h : MemberFrame) × (g ≡ union_frame h) × ForCurrent f.current (λ k. ChoosesMember t k x f h)
FrameTakes t test x (list_frame f) g = (h : EntryFrame) × (g ≡ list_frame h) × TakesEntry (sparse_at t f.shape) x f h
FrameTakes t test x (map_frame f) g =
    (h : KeyFrame) × (first : Option FaultKind) × (g ≡ map_frame h) × JudgesKey (finder t test) t f.shape f.current first
    × TakesPair (sparse_at t f.shape) first x f h
FrameTakes t test x (tagged_frame s k) g = ⊥
FrameTakes t test x (skip_frame depth report) g = ⊥

-- the root comes to this; by itself null is a tree of a wrong type
abbrev pub root_outcome : Arrival → Outcome
root_outcome null_comes = bad ([], WrongType)
root_outcome (value_comes v) = good v
root_outcome (fault_comes f) = bad f

-- a tree came where these frames stood
abbrev pub TakenBy : TableData → Test → Arrival → List Frame → Decoding → Type 0
TakenBy t test x [] e = (e.frames ≡ []) × (e.result ≡ Some (root_outcome x))
TakenBy t test x (f ∷ fs) e = (e.result ≡ None) × ((g : Frame) × (e.frames ≡ g ∷ fs) × FrameTakes t test x f g)

-- one came in what is passed over, so many levels deep, with these frames below: the fault to give, if any, comes at the end
abbrev pub PassedBy : TableData → Test → ℕ → Option FaultKind → List Frame → Decoding → Type 0
PassedBy t test zero None fs e = (e.result ≡ None) × (e.frames ≡ fs)
PassedBy t test zero (Some kind) fs e = TakenBy t test (fault_comes ([], kind)) fs e
PassedBy t test (suc depth) report fs e = (e.result ≡ None) × (e.frames ≡ skip_frame (suc depth) report ∷ fs)

-- the fault to give may be brought to the frame below
abbrev pub CanPass : TableData → ℕ → Option FaultKind → List Frame → Type 0
CanPass t zero None fs = Unit {0}
CanPass t zero (Some kind) fs = FirstCanTake t fs
CanPass t (suc depth) report fs = Unit {0}

-- what the list or object of a frame comes to at this place
abbrev pub frame_end : TableData → Place → Frame → Outcome
frame_end t p (structure_frame f) = structure_end t f
frame_end t p (union_frame f) = union_end f.fields f.fault
frame_end t p (list_frame f) = list_end (constraints_of t p) (unique_at t f.shape) f
frame_end t p (map_frame f) = map_end (constraints_of t p) f
frame_end t p (tagged_frame s k) = bad ([], WrongType)
frame_end t p (skip_frame depth report) = bad ([], WrongType)

-- a frame's list or object may end
abbrev pub CanEnd : TableData → Frame → Type 0
CanEnd t (structure_frame f) = (f.shape < shape_count t) × FieldsRise f.fields
CanEnd t (union_frame f) = Unit {0}
CanEnd t (list_frame f) = f.shape < shape_count t
CanEnd t (map_frame f) = Unit {0}
CanEnd t (tagged_frame s k) = ⊥
CanEnd t (skip_frame depth report) = ⊥

-- the innermost list or object may end, and does
abbrev pub FirstCanEnd : TableData → ℕ → List Frame → Type 0
FirstCanEnd t s [] = ⊥
FirstCanEnd t s (skip_frame depth report ∷ fs) = (0 < depth) × CanPass t (depth - 1) report fs
FirstCanEnd t s (structure_frame f ∷ fs) = CanEnd t (structure_frame f) × InTable t (place_among t s fs) × FirstCanTake t fs
FirstCanEnd t s (union_frame f ∷ fs) = CanEnd t (union_frame f) × InTable t (place_among t s fs) × FirstCanTake t fs
FirstCanEnd t s (list_frame f ∷ fs) = CanEnd t (list_frame f) × InTable t (place_among t s fs) × FirstCanTake t fs
FirstCanEnd t s (map_frame f ∷ fs) = CanEnd t (map_frame f) × InTable t (place_among t s fs) × FirstCanTake t fs
FirstCanEnd t s (tagged_frame n k ∷ fs) = ⊥

abbrev pub EndedBy : TableData → Test → ℕ → List Frame → Decoding → Type 0
EndedBy t test s [] e = ⊥
EndedBy t test s (skip_frame depth report ∷ fs) e = PassedBy t test (depth - 1) report fs e
EndedBy t test s (structure_frame f ∷ fs) e = TakenBy t test (comes (frame_end t (place_among t s fs) (structure_frame f))) fs e
EndedBy t test s (union_frame f ∷ fs) e = TakenBy t test (comes (frame_end t (place_among t s fs) (union_frame f))) fs e
EndedBy t test s (list_frame f ∷ fs) e = TakenBy t test (comes (frame_end t (place_among t s fs) (list_frame f))) fs e
EndedBy t test s (map_frame f ∷ fs) e = TakenBy t test (comes (frame_end t (place_among t s fs) (map_frame f))) fs e
EndedBy t test s (tagged_frame n k ∷ fs) e = ⊥
