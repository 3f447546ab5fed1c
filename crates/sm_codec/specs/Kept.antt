-- What a decoder holds after each event, for every prefix of a tree's stream: a frame for each level that isn't passed over, which says
-- of the level's closed places what they come to. The decoder doesn't keep the events; this relation has them.
use Rattle.std.specs.Prelude.{◌≡◌, ◌⊎◌, ℕ, Bool, true, false, cond, List, [], ◌∷◌, ◌++◌, length, Option, Some, None, Ok, Err}
use Rattle.std.specs.List.{filter}
use Rattle.std.specs.List.Sorted.{IsPermutation}
use Rattle.sm_tree.specs.Node.{Node}
use Rattle.sm_tree.specs.Events.{NodeEvent}
use Rattle.sm_tree.specs.Streams.{BeginsStream, unnumbered}
use Rattle.sm_tree.specs.Building.{Building, nothing, whole, within, so_far}
use Rattle.sm_shapes.specs.Values.{Val}
use Rattle.sm_shapes.specs.TableData.{TableData}
use Rattle.sm_shapes.specs.Places.{Place, root_place, member_place, shape_of, members_of_place, sparse_of, value_place}
use Rattle.sm_codec.specs.Sorts.{a_list, a_map, a_structure, a_union}
use Rattle.sm_codec.specs.Codec.{Codec, sort_at, InTable}
use Rattle.sm_codec.specs.Named.{named, names_of, in_byte_order}
use Rattle.sm_codec.specs.FaultLists.{FaultAt, first_fault, Reading}
use Rattle.sm_codec.specs.Readings.{Child, ByMember, under_names, children_of, named_children_of, entry_reading, entries_faults}
use Rattle.sm_codec.specs.Readings.{entries_values, keyed, pairs_faults, present_reading, member_fields, members_faults, so_far_absent}
use Rattle.sm_codec.specs.Readings.{repeats, all_standing, union_faults, reading}
use Rattle.sm_codec.specs.Decoding.{Outcome, good, bad, MemberFrame, EntryFrame, KeyFrame, Frame, structure_frame, union_frame}
use Rattle.sm_codec.specs.Decoding.{list_frame, map_frame, tagged_frame, skip_frame, Decoding}
use Rattle.sm_codec.specs.Walk.{Level, list_level, object_level, pair_level, Due, due_at, due_tagged, due_passed, due_nowhere}
use Rattle.sm_codec.specs.Walk.{levels_open, due_in, kept_levels, member_at}

-- the values that trees under one name spell for a member, and for each of these members
abbrev pub each_field : ℕ → List Child → List (ℕ × Val)
each_field k [] = []
each_field k (child ∷ children) =
    cond child.null [] (member_fields k (present_reading (child.reading (member_place k)))) ++ each_field k children

abbrev pub spelled_fields : ByMember → List ℕ → List (ℕ × Val)
spelled_fields stands [] = []
spelled_fields stands (k ∷ ks) = each_field k (stands k) ++ spelled_fields stands ks

-- the same of the keys of a map
abbrev pub each_entry : Codec → Place → List ℕ → List Child → List (List ℕ × Val)
each_entry c p key [] = []
each_entry c p key (child ∷ children) =
    keyed key (entry_reading (sparse_of c.table p) (value_place c.table p) child) ++ each_entry c p key children

abbrev pub spelled_entries : Codec → Place → List (List ℕ × Child) → List (List ℕ) → List (List ℕ × Val)
spelled_entries c p ps [] = []
spelled_entries c p ps (key ∷ keys) = each_entry c p key (named key ps) ++ spelled_entries c p ps keys

-- the members whose names stand, in model order
abbrev pub has_one : List Child → Bool
has_one [] = false
has_one (child ∷ children) = true

abbrev pub closed_members : ByMember → List ℕ → List ℕ
closed_members stands ks = filter (λ k. has_one (stands k)) ks

-- some of these, in their order
abbrev pub AreOf : {A : Type 0} → List A → List A → Type 0
AreOf [] ys = Unit {0}
AreOf (x ∷ xs) [] = ⊥
AreOf (x ∷ xs) (y ∷ ys) = ((x ≡ y) × AreOf xs ys) ⊎ AreOf (x ∷ xs) ys

-- all of them where there is no fault, else some of them
abbrev pub AreKept : {A : Type 0} → List FaultAt → List A → List A → Type 0
AreKept [] kept all = kept ≡ all
AreKept (f ∷ fs) kept all = AreOf kept all

-- a list at a place, with these closed entries
pub record HoldsEntries (c : Codec) (p : Place) (ns : List Node) (f : EntryFrame) : Type 0 where
  pub sort : sort_at c p ≡ a_list
  pub shape : f.shape ≡ shape_of c.table p
  pub count : f.count ≡ length ns
  pub fault : f.fault ≡ first_fault (entries_faults c p 0 (children_of c ns))
  pub items : AreKept (entries_faults c p 0 (children_of c ns)) f.items (entries_values c p (children_of c ns))

-- the faults of the closed members of a structure, and of a union: in a union that none stands is no fault yet
abbrev pub closed_faults : TableData → ByMember → List ℕ → List FaultAt
closed_faults t stands ks = members_faults t so_far_absent stands ks

abbrev pub closed_union_faults : TableData → ByMember → List ℕ → List FaultAt
closed_union_faults t stands ks = union_faults t [] (repeats t stands ks) (all_standing stands ks)

-- what is kept of the members of a place, by what stands for them: their closed places have these faults
pub record HoldsMembers (t : TableData) (p : Place) (stands : ByMember) (pending : Option ℕ) (faults : List FaultAt)
    (f : MemberFrame) : Type 0 where
  pub shape : f.shape ≡ shape_of t p
  pub seen : IsPermutation f.seen (closed_members stands (members_of_place t p))
  pub current : f.current ≡ pending
  pub fault : f.fault ≡ first_fault faults
  pub fields : AreKept faults f.fields (spelled_fields stands (members_of_place t p))

-- the values of all members that stand in model order before the first with a fault are kept
abbrev pub KeepsPrefix : TableData → Place → ByMember → MemberFrame → Type 0
KeepsPrefix t p stands f =
    (before behind : List ℕ) → members_of_place t p ≡ before ++ behind → closed_faults t stands before ≡ []
    → (rest : List (ℕ × Val)) × (f.fields ≡ spelled_fields stands before ++ rest)

-- a map at a place, with these closed pairs
pub record HoldsKeys (c : Codec) (p : Place) (ps : List (List ℕ × Child)) (pending : Option (List ℕ)) (f : KeyFrame) : Type 0 where
  pub shape : f.shape ≡ shape_of c.table p
  pub seen : IsPermutation f.seen (in_byte_order (names_of ps))
  pub current : f.current ≡ pending
  pub fault : f.fault ≡ first_fault (pairs_faults c p ps)
  pub entries : AreKept (pairs_faults c p ps) f.entries (spelled_entries c p ps (in_byte_order (names_of ps)))

-- the member that a pending name is of
abbrev pub current_member : Codec → Place → Option (List ℕ) → Option ℕ
current_member c p None = None
current_member c p (Some name) = member_at c p name

-- an object at a place, with these closed pairs, and the name whose tree isn't closed
abbrev pub HoldsPairs : Codec → Place → List (List ℕ × Child) → Option (List ℕ) → Frame → Type 0
HoldsPairs c p ps name (structure_frame f) =
    (sort_at c p ≡ a_structure)
    × HoldsMembers c.table p (under_names c p ps) (current_member c p name)
    (closed_faults c.table (under_names c p ps) (members_of_place c.table p)) f
    × KeepsPrefix c.table p (under_names c p ps) f
HoldsPairs c p ps name (union_frame f) =
    (sort_at c p ≡ a_union)
    × HoldsMembers c.table p (under_names c p ps) (current_member c p name)
    (closed_union_faults c.table (under_names c p ps) (members_of_place c.table p)) f
HoldsPairs c p ps name (map_frame f) = (sort_at c p ≡ a_map) × HoldsKeys c p ps name f
HoldsPairs c p ps name (list_frame f) = ⊥
HoldsPairs c p ps name (tagged_frame s k) = ⊥
HoldsPairs c p ps name (skip_frame depth report) = ⊥

abbrev pub HoldsList : Codec → Place → List Node → Frame → Type 0
HoldsList c p ns (list_frame f) = HoldsEntries c p ns f
HoldsList c p ns (structure_frame f) = ⊥
HoldsList c p ns (union_frame f) = ⊥
HoldsList c p ns (map_frame f) = ⊥
HoldsList c p ns (tagged_frame s k) = ⊥
HoldsList c p ns (skip_frame depth report) = ⊥

-- a level at a place
abbrev pub FrameHolds : Codec → Place → Level → Frame → Type 0
FrameHolds c p (list_level ns ts) frame = HoldsList c p ns frame
FrameHolds c p (object_level ms) frame = HoldsPairs c p (named_children_of c ms) None frame
FrameHolds c p (pair_level ms name ts) frame = HoldsPairs c p (named_children_of c ms) (Some name) frame

-- one frame a level
abbrev pub FramesHold : Codec → List (Place × Level) → List Frame → Type 0
FramesHold c [] [] = Unit {0}
FramesHold c [] (f ∷ fs) = ⊥
FramesHold c (l ∷ ls) [] = ⊥
FramesHold c (l ∷ ls) (f ∷ fs) = FrameHolds c l.0 l.1 f × FramesHold c ls fs

-- the frame of a tag, or of what is passed over, before all others
abbrev pub due_frames : Codec → Due → List Frame
due_frames c (due_at p) = []
due_frames c (due_tagged p x k) = tagged_frame (shape_of c.table p) k ∷ []
due_frames c (due_passed depth report) = skip_frame depth report ∷ []
due_frames c due_nowhere = []

-- the root's value, or its first fault
abbrev pub IsOutcome : Reading → Outcome → Type 0
IsOutcome (Ok v) o = o ≡ good v
IsOutcome (Err fs) o = (f : FaultAt) × (rest : List FaultAt) × (fs ≡ f ∷ rest) × (o ≡ bad f)

-- while levels are open, or nothing has come but tags
abbrev pub HoldsOpen : Codec → List ℕ → List Level → Decoding → Type 0
HoldsOpen c ts ls d =
    (d.result ≡ None)
    × ((fs : List Frame) × (d.frames ≡ due_frames c (due_in c d.shape ts ls) ++ fs) × FramesHold c (kept_levels c d.shape ts ls) fs)

abbrev pub Holds : Codec → Building → Decoding → Type 0
Holds c (nothing ts) d = HoldsOpen c ts [] d
Holds c (whole n) d = (d.frames ≡ []) × ((o : Outcome) × (d.result ≡ Some o) × IsOutcome (reading c n (root_place d.shape)) o)
Holds c (within ts inner outer) d = HoldsOpen c ts (levels_open (within ts inner outer)) d

-- the decoder holds what these events come to: they are a prefix of a tree's stream, and the root's shape is one of the table
pub record Kept (c : Codec) (es : List NodeEvent) (d : Decoding) : Type 0 where
  pub begins : BeginsStream es
  pub in_table : InTable c.table (root_place d.shape)
  pub building : Building
  pub taken : unnumbered es ≡ so_far building
  pub holds : Holds c building d
