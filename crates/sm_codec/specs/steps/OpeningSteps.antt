-- What the frames of a decoder become behind a leaf, a tag, an opener and a name, by where the next tree is due.
use Rattle.std.specs.Prelude.{◌≡◌, ℕ, suc, ◌<◌, Bool, true, false, List, [], ◌∷◌, Option, Some, None, is_some}
use Rattle.sm_tree.specs.Node.{Node, tag}
use Rattle.sm_shapes.specs.Fitting.{Test}
use Rattle.sm_shapes.specs.TableData.{TableData, shape_count, members_at, member_with}
use Rattle.sm_shapes.specs.Places.{Place, shape_of}
use Rattle.sm_shapes.specs.declared.fault.FaultKind.{FaultKind}
use Rattle.sm_shapes.specs.declared.fault.FaultKind.TheVariants.{WrongType}
use Rattle.sm_codec.specs.Convention.{Convention, nested_fault}
use Rattle.sm_codec.specs.Sorts.{Sort, simple, a_list, a_map, a_structure, a_union, left_out, sort_of}
use Rattle.sm_codec.specs.Codec.{InTable}
use Rattle.sm_codec.specs.Decoding.{MemberFrame, EntryFrame, KeyFrame, Frame, structure_frame, union_frame, list_frame, map_frame}
use Rattle.sm_codec.specs.Decoding.{tagged_frame, skip_frame, Decoding}
use Rattle.sm_codec.specs.Named.{is_null}
use Rattle.sm_codec.specs.Readings.{leaf_in}
use Rattle.sm_codec.specs.steps.Arrivals.{Arrival, IsArrival}
use Rattle.sm_codec.specs.steps.DecoderSteps.{Told, told_at, told_tagged, told_passed, FirstCanTake, TakenBy, CanPass, PassedBy}
use Rattle.sm_codec.specs.steps.MapSteps.{IsKeyed}
use Rattle.sm_codec.specs.steps.MemberSteps.{IsNamed}

-- the frames below the innermost
abbrev pub below : List Frame → List Frame
below [] = []
below (f ∷ fs) = fs

-- the place that is due is one of the table
abbrev pub ToldIn : TableData → Told → Type 0
ToldIn t (told_at p) = InTable t p
ToldIn t (told_tagged p k) = InTable t p
ToldIn t (told_passed depth report) = Unit {0}

-- a leaf may be brought where the tree is due
abbrev pub CanRead : TableData → Told → List Frame → Type 0
CanRead t (told_at p) fs = FirstCanTake t fs
CanRead t (told_tagged p k) fs = FirstCanTake t (below fs)
CanRead t (told_passed depth report) fs = CanPass t depth report (below fs)

-- a leaf is read at a place, and taken by these frames
abbrev pub LeafTaken : TableData → Convention → Test → Place → Node → List Frame → Decoding → Type 0
LeafTaken t l test p n fs e = (x : Arrival) × IsArrival (is_null n) (leaf_in t l test p n) x × TakenBy t test x fs e

abbrev pub LeafBy : TableData → Convention → Test → Told → Node → List Frame → Decoding → Type 0
LeafBy t l test (told_at p) n fs e = LeafTaken t l test p n fs e
LeafBy t l test (told_tagged p k) n fs e = LeafTaken t l test p (tag k n) (below fs) e
LeafBy t l test (told_passed depth report) n fs e = PassedBy t test depth report (below fs) e

-- the fault of a tag at a place of this sort, with what is nested under it
abbrev pub nested_in : Convention → Sort → ℕ → FaultKind
nested_in l (simple x) k = nested_fault l x k
nested_in l a_list k = WrongType
nested_in l a_map k = WrongType
nested_in l a_structure k = WrongType
nested_in l a_union k = WrongType
nested_in l left_out k = WrongType

-- a tag
abbrev pub tag_frame : Sort → ℕ → ℕ → Frame
tag_frame (simple x) s k = tagged_frame s k
tag_frame a_list s k = skip_frame 0 (Some WrongType)
tag_frame a_map s k = skip_frame 0 (Some WrongType)
tag_frame a_structure s k = skip_frame 0 (Some WrongType)
tag_frame a_union s k = skip_frame 0 (Some WrongType)
tag_frame left_out s k = skip_frame 0 (Some WrongType)

abbrev pub TagBy : TableData → Convention → Told → ℕ → List Frame → List Frame → Type 0
TagBy t l (told_at p) k fs gs = gs ≡ tag_frame (sort_of t p) (shape_of t p) k ∷ fs
TagBy t l (told_tagged p j) k fs gs = gs ≡ skip_frame 0 (Some (nested_in l (sort_of t p) j)) ∷ below fs
TagBy t l (told_passed depth report) k fs gs = gs ≡ fs

-- the frames of structures and unions, of lists and of maps that have just opened
abbrev pub new_members : ℕ → MemberFrame
new_members s = record { shape = s; fields = []; seen = []; current = None; fault = None }

abbrev pub new_entries : ℕ → EntryFrame
new_entries s = record { shape = s; items = []; count = 0; fault = None }

abbrev pub new_keys : ℕ → KeyFrame
new_keys s = record { shape = s; entries = []; seen = []; current = None; fault = None }

-- a list, and an object, that opens at a place of this sort
abbrev pub list_start : Sort → ℕ → Frame
list_start a_list s = list_frame (new_entries s)
list_start (simple x) s = skip_frame 1 (Some WrongType)
list_start a_map s = skip_frame 1 (Some WrongType)
list_start a_structure s = skip_frame 1 (Some WrongType)
list_start a_union s = skip_frame 1 (Some WrongType)
list_start left_out s = skip_frame 1 (Some WrongType)

abbrev pub object_start : Sort → ℕ → Frame
object_start a_map s = map_frame (new_keys s)
object_start a_structure s = structure_frame (new_members s)
object_start a_union s = union_frame (new_members s)
object_start a_list s = skip_frame 1 (Some WrongType)
object_start (simple x) s = skip_frame 1 (Some WrongType)
object_start left_out s = skip_frame 1 (Some WrongType)

-- of `start` one of these
abbrev pub StartBy : (Sort → ℕ → Frame) → TableData → Convention → Told → List Frame → List Frame → Type 0
StartBy start t l (told_at p) fs gs = gs ≡ start (sort_of t p) (shape_of t p) ∷ fs
StartBy start t l (told_tagged p j) fs gs = gs ≡ skip_frame 1 (Some (nested_in l (sort_of t p) j)) ∷ below fs
StartBy start t l (told_passed depth report) fs gs = gs ≡ skip_frame (suc depth) report ∷ below fs

-- a name may come in the frame's object
abbrev pub CanName : TableData → Frame → Type 0
CanName t (structure_frame f) = f.shape < shape_count t
CanName t (union_frame f) = f.shape < shape_count t
CanName t (list_frame f) = ⊥
CanName t (map_frame f) = Unit {0}
CanName t (tagged_frame s k) = ⊥
CanName t (skip_frame depth report) = Unit {0}

abbrev pub FirstCanName : TableData → List Frame → Type 0
FirstCanName t [] = ⊥
FirstCanName t (f ∷ fs) = CanName t f

abbrev pub member_named : TableData → Convention → ℕ → List ℕ → Option ℕ
member_named t l s name = member_with (l.name t s) name (members_at t s)

-- the frame is told a name; whether what stands under it isn't passed over for the name alone
abbrev pub FrameNames : TableData → Convention → List ℕ → Bool → Frame → Frame → Type 0
FrameNames t l name known (structure_frame f) g =
    (h : MemberFrame) × (g ≡ structure_frame h) × IsNamed (member_named t l f.shape name) f h × (known ≡ is_some h.current)
FrameNames t l name known (union_frame f) g =
    (h : MemberFrame) × (g ≡ union_frame h) × IsNamed (member_named t l f.shape name) f h × (known ≡ is_some h.current)
FrameNames t l name known (list_frame f) g = ⊥
FrameNames t l name known (map_frame f) g = (h : KeyFrame) × (g ≡ map_frame h) × IsKeyed name f h × (known ≡ true)
FrameNames t l name known (tagged_frame s k) g = ⊥
FrameNames t l name known (skip_frame depth report) g = (g ≡ skip_frame depth report) × (known ≡ true)

-- the innermost is
abbrev pub FirstNames : TableData → Convention → List ℕ → Bool → List Frame → List Frame → Type 0
FirstNames t l name known [] gs = ⊥
FirstNames t l name known (f ∷ fs) gs = (g : Frame) × (gs ≡ g ∷ fs) × FrameNames t l name known f g

-- what stands under a name of no member is passed over
abbrev pub with_silence : Bool → List Frame → List Frame
with_silence true fs = fs
with_silence false fs = skip_frame 0 None ∷ fs

abbrev pub NameBy : TableData → Convention → List ℕ → List Frame → List Frame → Type 0
NameBy t l name fs gs = (known : Bool) × (hs : List Frame) × FirstNames t l name known fs hs × (gs ≡ with_silence known hs)
