-- What a decoder's frame of a union does where the value of one of its members is closed. A member that is repeated is told first; then
-- that more than one stands; then the faults of the one. A frame keeps one fault: that a member is repeated is known by its path of one
-- step, since no value has this fault by itself.
use Rattle.std.specs.Prelude.{◌≡◌, ℕ, Bool, true, false, ◌&&◌, cond, MatchBool, List, [], ◌∷◌, Option, Some, None}
use Rattle.std.specs.List.Sorted.{IsPermutation}
use Rattle.sm_tree.specs.declared.path.Step.{Step}
use Rattle.sm_shapes.specs.Values.{Val, union_val}
use Rattle.sm_shapes.specs.TableData.{TableData, members_at}
use Rattle.sm_shapes.specs.declared.fault.FaultKind.{FaultKind}
use Rattle.sm_shapes.specs.declared.fault.FaultKind.TheVariants.{Repeated, UnionCount}
use Rattle.sm_codec.specs.FaultLists.{FaultAt}
use Rattle.sm_codec.specs.Decoding.{Outcome, good, bad, MemberFrame}
use Rattle.sm_codec.specs.steps.Arrivals.{Arrival, null_comes, value_comes, fault_comes}
use Rattle.sm_codec.specs.steps.MemberSteps.{is_seen, at_member, least_fault}

abbrev pub is_own : List Step → Bool
is_own [] = true
is_own (step ∷ path) = false

abbrev pub is_repeated : FaultKind → Bool
is_repeated Repeated = true
is_repeated kind = false

-- a fault of a tree itself that says so; and one step up
abbrev pub repeats_here : FaultAt → Bool
repeats_here f = is_own f.0 && is_repeated f.1

abbrev pub is_below : List Step → Bool
is_below [] = false
is_below (step ∷ path) = is_own path

abbrev pub is_repeat : FaultAt → Bool
is_repeat f = is_below f.0 && is_repeated f.1

-- where a member stands that isn't null: its fault alone if it is the only one, and else that there are more, but for a repeat
abbrev pub chosen : Option FaultAt → List (ℕ × Val) → Option FaultAt → Option FaultAt
chosen alone [] None = alone
chosen alone (f ∷ fs) None = Some ([], UnionCount)
chosen alone fs (Some old) = cond (is_repeat old) (Some old) (Some ([], UnionCount))

abbrev pub choice_fault : TableData → ℕ → Arrival → List (ℕ × Val) → Option FaultAt → Option FaultAt
choice_fault t k null_comes fs old = old
choice_fault t k (value_comes v) fs old = chosen None fs old
choice_fault t k (fault_comes f) fs old = chosen (Some (at_member t k f)) fs old

abbrev pub first_choice : ℕ → Val → List (ℕ × Val) → Option FaultAt → List (ℕ × Val)
first_choice k v [] None = (k, v) ∷ []
first_choice k v (f ∷ fs) None = f ∷ fs
first_choice k v fs (Some old) = fs

abbrev pub choice_fields : ℕ → Arrival → List (ℕ × Val) → Option FaultAt → List (ℕ × Val)
choice_fields k null_comes fs old = fs
choice_fields k (value_comes v) fs old = first_choice k v fs old
choice_fields k (fault_comes f) fs old = fs

-- a member that stands once more
abbrev pub repeat_fault : TableData → List ℕ → ℕ → Option FaultAt → Option FaultAt
repeat_fault t ks k None = Some (at_member t k ([], Repeated))
repeat_fault t ks k (Some old) =
    cond (is_repeat old) (least_fault t ks k (at_member t k ([], Repeated)) (Some old)) (Some (at_member t k ([], Repeated)))

-- a tree comes for the member k of a union: for the first time, or once more
abbrev pub ChoosesFirst : TableData → ℕ → Arrival → MemberFrame → MemberFrame → Type 0
ChoosesFirst t k x f g =
    IsPermutation (k ∷ f.seen) g.seen × (g.fields ≡ choice_fields k x f.fields f.fault) × (g.fault ≡ choice_fault t k x f.fields f.fault)

abbrev pub ChoosesAgain : TableData → ℕ → MemberFrame → MemberFrame → Type 0
ChoosesAgain t k f g =
    (g.seen ≡ f.seen) × (g.fields ≡ f.fields) × (g.fault ≡ repeat_fault t (members_at t f.shape) k f.fault)

abbrev pub ChoosesMember : TableData → ℕ → Arrival → MemberFrame → MemberFrame → Type 0
ChoosesMember t k x f g =
    (g.shape ≡ f.shape) × (g.current ≡ None) × MatchBool (is_seen k f.seen) (ChoosesAgain t k f g) (ChoosesFirst t k x f g)

-- what a union comes to where it ends, by its values and its fault
abbrev pub union_end : List (ℕ × Val) → Option FaultAt → Outcome
union_end [] None = bad ([], UnionCount)
union_end (f ∷ fs) None = good (union_val f.0 f.1)
union_end fs (Some f) = bad f

-- what keeping one of these changes in the frame
abbrev pub KeepsRepeat : TableData → ℕ → MemberFrame → MemberFrame → Type 0
KeepsRepeat t k f g =
    (g.shape ≡ f.shape) × (g.fields ≡ f.fields) × (g.seen ≡ f.seen) × (g.current ≡ f.current)
    × (g.fault ≡ repeat_fault t (members_at t f.shape) k f.fault)

abbrev pub KeepsChoice : ℕ → Val → MemberFrame → MemberFrame → Type 0
KeepsChoice k v f g =
    (g.shape ≡ f.shape) × (g.fields ≡ first_choice k v f.fields f.fault) × (g.seen ≡ f.seen) × (g.current ≡ f.current)
    × (g.fault ≡ chosen None f.fields f.fault)

abbrev pub KeepsChoiceFault : TableData → ℕ → FaultAt → MemberFrame → MemberFrame → Type 0
KeepsChoiceFault t k new f g =
    (g.shape ≡ f.shape) × (g.fields ≡ f.fields) × (g.seen ≡ f.seen) × (g.current ≡ f.current)
    × (g.fault ≡ chosen (Some (at_member t k new)) f.fields f.fault)

-- no member stands yet, and none is repeated
abbrev pub is_free : List (ℕ × Val) → Option FaultAt → Bool
is_free [] None = true
is_free (f ∷ fs) None = false
is_free fs (Some old) = false

-- the fault where more than one stands
abbrev pub told : Option FaultAt → Option FaultAt
told None = Some ([], UnionCount)
told (Some old) = cond (is_repeat old) (Some old) (Some ([], UnionCount))

abbrev pub TellsMore : MemberFrame → MemberFrame → Type 0
TellsMore f g =
    (g.shape ≡ f.shape) × (g.fields ≡ f.fields) × (g.seen ≡ f.seen) × (g.current ≡ f.current) × (g.fault ≡ told f.fault)
