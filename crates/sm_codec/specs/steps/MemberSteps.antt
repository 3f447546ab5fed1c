-- What a decoder's frame of a structure or a union does where the value of one of its members is closed.
use Rattle.std.specs.Prelude.{◌≡◌, ℕ, nat_le, nat_eq, Bool, true, false, MatchBool, List, [], ◌∷◌, Option, Some, None}
use Rattle.std.specs.List.{list_any}
use Rattle.std.specs.List.Sorted.{IsPermutation}
use Rattle.sm_tree.specs.declared.path.Step.{Step}
use Rattle.sm_tree.specs.declared.path.Step.TheVariants.{Member, Index, Key}
use Rattle.sm_shapes.specs.Values.{Val}
use Rattle.sm_shapes.specs.TableData.{TableData, name_at, members_at, member_with}
use Rattle.sm_shapes.specs.declared.fault.FaultKind.TheVariants.{Repeated}
use Rattle.sm_shapes.specs.FieldPuts.{put_field}
use Rattle.sm_codec.specs.FaultLists.{FaultAt}
use Rattle.sm_codec.specs.Decoding.{MemberFrame}
use Rattle.sm_codec.specs.steps.LeastFaults.{least_of}
use Rattle.sm_codec.specs.steps.Arrivals.{Arrival, null_comes, value_comes, fault_comes}

-- the name of the member at which a path begins
abbrev pub first_name : List Step → List ℕ
first_name [] = []
first_name (Member name ∷ path) = name
first_name (Index i ∷ path) = []
first_name (Key key ∷ path) = []

-- a fault at this member doesn't stand before k
abbrev pub gives_way : ℕ → Option ℕ → Bool
gives_way k None = true
gives_way k (Some j) = nat_le k j

-- the first fault of a structure's closed members in model order, where k has this one now
abbrev pub least_fault : TableData → List ℕ → ℕ → FaultAt → Option FaultAt → Option FaultAt
least_fault t ks k new old = least_of (λ f. gives_way k (member_with (name_at t) (first_name f.0) ks)) new old

-- the member is one of those seen
abbrev pub is_seen : ℕ → List ℕ → Bool
is_seen k seen = list_any (λ j. nat_eq j k) seen

-- the fault of this kind at a member, and a member's own fault
abbrev pub at_member : TableData → ℕ → FaultAt → FaultAt
at_member t k f = (Member (name_at t k) ∷ f.0, f.1)

-- a member was added, or was there
abbrev pub IsAdded : Bool → ℕ → List ℕ → List ℕ → Type 0
IsAdded true k seen now = (is_seen k seen ≡ false) × IsPermutation (k ∷ seen) now
IsAdded false k seen now = (is_seen k seen ≡ true) × (now ≡ seen)

-- the frame knows the member that the next pair is of, if it is of any
abbrev pub IsNamed : Option ℕ → MemberFrame → MemberFrame → Type 0
IsNamed current f g =
    (g.shape ≡ f.shape) × (g.fields ≡ f.fields) × (g.seen ≡ f.seen) × (g.fault ≡ f.fault) × (g.current ≡ current)

-- the frame keeps the fault of the member k, or one before it
abbrev pub KeepsFault : TableData → ℕ → FaultAt → MemberFrame → MemberFrame → Type 0
KeepsFault t k new f g =
    (g.shape ≡ f.shape) × (g.fields ≡ f.fields) × (g.seen ≡ f.seen) × (g.current ≡ f.current)
    × (g.fault ≡ least_fault t (members_at t f.shape) k (at_member t k new) f.fault)

-- the fields and the fault of a structure of these members, by what comes for k for the first time
abbrev pub fields_taken : ℕ → Arrival → List (ℕ × Val) → List (ℕ × Val)
fields_taken k null_comes fs = fs
fields_taken k (value_comes v) fs = put_field k v fs
fields_taken k (fault_comes f) fs = fs

abbrev pub fault_taken : TableData → List ℕ → ℕ → Arrival → Option FaultAt → Option FaultAt
fault_taken t ks k null_comes old = old
fault_taken t ks k (value_comes v) old = old
fault_taken t ks k (fault_comes f) old = least_fault t ks k (at_member t k f) old

-- a tree comes for the member k of a structure: for the first time, or once more
abbrev pub TakesFirst : TableData → ℕ → Arrival → MemberFrame → MemberFrame → Type 0
TakesFirst t k x f g =
    IsPermutation (k ∷ f.seen) g.seen × (g.fields ≡ fields_taken k x f.fields)
    × (g.fault ≡ fault_taken t (members_at t f.shape) k x f.fault)

abbrev pub TakesAgain : TableData → ℕ → MemberFrame → MemberFrame → Type 0
TakesAgain t k f g =
    (g.seen ≡ f.seen) × (g.fields ≡ f.fields) × (g.fault ≡ least_fault t (members_at t f.shape) k (at_member t k ([], Repeated)) f.fault)

abbrev pub TakesMember : TableData → ℕ → Arrival → MemberFrame → MemberFrame → Type 0
TakesMember t k x f g =
    (g.shape ≡ f.shape) × (g.current ≡ None) × MatchBool (is_seen k f.seen) (TakesAgain t k f g) (TakesFirst t k x f g)
