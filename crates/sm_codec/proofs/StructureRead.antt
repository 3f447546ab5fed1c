-- A structure's frame, where the object ends, says what the object comes to: the first member that is missing before the first fault, that
-- fault, or the fields with the defaults of members that are absent.
use Rattle.std.proofs.Common.{◌≡◌, ℕ, Bool, true, false, cond, List, [], ◌∷◌, ◌++◌, append_assoc, refl, sym, ap, ◌∙◌, subst}
use Rattle.std.specs.Prelude.{Option, Some, None, unwrap_or, Ok, Err}
use Rattle.std.specs.List.Sorted.{IsStrictlySortedBy}
use Rattle.std.specs.Ordering.{nat_cmp}
use Rattle.sm_tree.specs.Node.{Node}
use Rattle.sm_tree.specs.declared.path.Step.TheVariants.{Member}
use Rattle.sm_shapes.specs.Values.{Val, structure_val, fields_of}
use Rattle.sm_shapes.specs.TableData.{TableData, name_at}
use Rattle.sm_shapes.specs.InOrder.{Shaped}
use Rattle.sm_shapes.specs.Places.{Place, member_place, shape_of, members_of_place}
use Rattle.sm_shapes.specs.declared.fault.FaultKind.TheVariants.{Missing}
use Rattle.sm_shapes.specs.FieldPuts.{FieldsFrom}
use Rattle.sm_codec.specs.Codec.{Codec, wire_name, InTable}
use Rattle.sm_codec.specs.Named.{named}
use Rattle.sm_codec.specs.FaultLists.{FaultAt, Reading, under, first_fault, settled}
use Rattle.sm_codec.specs.Readings.{Child, ByMember, children_of, named_children_of, under_names, reading, when_closed, so_far_absent}
use Rattle.sm_codec.specs.Readings.{member_reading, member_faults, members_faults, members_fields, present_reading, absent_reading}
use Rattle.sm_codec.specs.Readings.{structure_reading}
use Rattle.sm_codec.specs.Decoding.{MemberFrame, structure_frame}
use Rattle.sm_codec.specs.Kept.{AreOf, spelled_fields, closed_faults, HoldsPairs}
use Rattle.sm_codec.specs.steps.MemberSteps.{first_name, at_member}
use Rattle.sm_codec.specs.steps.ClosingSteps.{missing, missing_fault, defaults_put}
use Rattle.sm_codec.proofs.NoFaults.{IsReading, reading_is, ok_reading}
use Rattle.sm_codec.proofs.ChildLists.{named_are}
use Rattle.sm_codec.proofs.PlacesIn.{shape_in}
use Rattle.sm_codec.proofs.MembersKept.{of_two, kept_of, kept_all, prefix_same, from_of, above_before}
use Rattle.sm_codec.proofs.MemberParts.{AllBelow, AllAbove, own_faults, spelled_two, spelled_below, spelled_from, rises_before}
use Rattle.sm_codec.proofs.MemberParts.{rises_behind, above_from}
use Rattle.sm_codec.proofs.StructureEnds.{AreReadings, all_stood, AreThere, Rising, HighFor, all_there, first_missing, clean_ends}
use Rattle.sm_codec.proofs.StructureEnds.{fields_end, low_none}

-- what an object without faults so far comes to, by the first member that is missing
abbrev pub StructureEnds : Codec → Place → List (List ℕ × Node) → MemberFrame → Option ℕ → Type 0
StructureEnds c p ms f None =
    structure_reading c p (named_children_of c ms) ≡ Ok (structure_val
    (fields_of (defaults_put c.table (members_of_place c.table p) f.fields)))
StructureEnds c p ms f (Some k) =
    (fs : List FaultAt) × (structure_reading c p (named_children_of c ms) ≡ Err (at_member c.table k ([], Missing) ∷ fs))

-- trees come to a value or to one fault at least
pub never_empty : (r : Reading) → IsReading r → r ≡ Err [] → ⊥
never_empty (Ok v) is h = cc
never_empty (Err []) is h = is
never_empty (Err (f ∷ fs)) is h = cc

are_readings : (c : Codec) (ns : List Node) → AreReadings (children_of c ns)
are_readings c [] = tt
are_readings c (n ∷ ns) =
    (λ k h. never_empty (reading c n (member_place k)) (reading_is c n (member_place k)) h, are_readings c ns)

pub all_readings : (c : Codec) (p : Place) (ms : List (List ℕ × Node)) (k : ℕ) → AreReadings (under_names c p (named_children_of c ms) k)
all_readings c p ms k = subst AreReadings (sym (named_are c (wire_name c p k) ms)) (are_readings c (named (wire_name c p k) ms))

-- the first fault of the closed members: the member that has it, those before it without one, and those behind it
abbrev SplitAt : TableData → ByMember → List ℕ → FaultAt → Type 0
SplitAt t s ks g =
    (pre post : List ℕ) × (j : ℕ) × (ks ≡ pre ++ j ∷ post) × (closed_faults t s pre ≡ [])
    × ((fs : List FaultAt) × (own_faults t s j ≡ g ∷ fs))

split_by : (t : TableData) (s : ByMember) (k : ℕ) (ks : List ℕ) (own : List FaultAt) (g : FaultAt) (gs : List FaultAt)
    → own_faults t s k ≡ own
    → own ++ closed_faults t s ks ≡ g ∷ gs → (closed_faults t s ks ≡ g ∷ gs → SplitAt t s ks g) → SplitAt t s (k ∷ ks) g
split_by t s k ks [] g gs e h more =
    let rest = more h in
    (k ∷ rest.0, rest.1, rest.2, ap (λ js. k ∷ js) rest.3, ap (λ fs. fs ++ closed_faults t s rest.0) e ∙ rest.4, rest.5)
split_by t s k ks (f ∷ own) g gs e h more =
    let first : f ≡ g = cc in
    ([], ks, k, refl, refl, (own, e ∙ ap (λ x. x ∷ own) first))

split_at_fault : (t : TableData) (s : ByMember) (ks : List ℕ) (g : FaultAt) (gs : List FaultAt) → closed_faults t s ks ≡ g ∷ gs
    → SplitAt t s ks g
split_at_fault t s [] g gs h = absurd cc
split_at_fault t s (k ∷ ks) g gs h = split_by t s k ks (own_faults t s k) g gs refl h (λ e. split_at_fault t s ks g gs e)

-- a member's fault so far is its fault at the end
same_own : (t : TableData) (k : ℕ) (children : List Child) (f : FaultAt) (fs : List FaultAt)
    → under (Member (name_at t k)) (member_faults (member_reading so_far_absent k children)) ≡ f ∷ fs
    → member_reading (when_closed t) k children ≡ member_reading so_far_absent k children
same_own t k [] f fs h = absurd cc
same_own t k (child ∷ []) f fs h = by_null child.null h
  where
    by_null : (b : Bool)
        → under (Member (name_at t k)) (member_faults (cond b (Ok None) (present_reading (child.reading (member_place k))))) ≡ f ∷ fs
        → cond b (absent_reading (when_closed t k)) (present_reading (child.reading (member_place k)))
        ≡ cond b (Ok None) (present_reading (child.reading (member_place k)))
    by_null true e = absurd cc
    by_null false e = refl
same_own t k (child ∷ more ∷ children) f fs h = refl

-- faults at the end, of members in two parts
ends_two : (t : TableData) (s : ByMember) (ks js : List ℕ)
    → members_faults t (when_closed t) s (ks ++ js) ≡ members_faults t (when_closed t) s ks ++ members_faults t (when_closed t) s js
ends_two t s [] js = refl
ends_two t s (k ∷ ks) js =
    let own = under (Member (name_at t k)) (member_faults (member_reading (when_closed t) k (s k))) in
    ap (λ fs. own ++ fs) (ends_two t s ks js)
    ∙ sym (append_assoc own (members_faults t (when_closed t) s ks) (members_faults t (when_closed t) s js))

-- numbers that rise
rising : (t : TableData) (s : ByMember) (ks : List ℕ) → IsStrictlySortedBy nat_cmp ks → Rising t s ks
unfolding IsStrictlySortedBy
rising t s [] h = tt
rising t s (k ∷ ks) h = (above_from k ks h.0, rising t s ks h.1)

above_front : (k : ℕ) (ks js : List ℕ) → AllAbove k (ks ++ js) → AllAbove k ks
above_front k [] js h = tt
above_front k (i ∷ ks) js h = (h.0, above_front k ks js h.1)

rising_front : (t : TableData) (s : ByMember) (ks js : List ℕ) → Rising t s (ks ++ js) → Rising t s ks
rising_front t s [] js h = tt
rising_front t s (k ∷ ks) js h = (above_front k ks js h.0, rising_front t s ks js h.1)

high_from : (t : TableData) (s : ByMember) (j : ℕ) (ks : List ℕ) (rest : List (ℕ × Val)) → AllBelow j ks → FieldsFrom j rest
    → HighFor t s rest ks
high_from t s j [] rest h g = tt
high_from t s j (k ∷ ks) rest h g = (above_before k j rest h.0 g, high_from t s j ks rest h.1 g)

-- which fields are there of the members before the first fault
there_before : (t : TableData) (s : ByMember) (fields : List (ℕ × Val)) (pre : List ℕ) (j : ℕ) (post : List ℕ)
    → IsStrictlySortedBy nat_cmp (pre ++ j ∷ post) → AreOf fields (spelled_fields s (pre ++ j ∷ post))
    → ((rest : List (ℕ × Val)) × (fields ≡ spelled_fields s pre ++ rest)) → AreThere t s fields pre
there_before t s fields pre j post sorted some kept =
    let below = rises_before pre j post sorted in
    let parts = of_two fields (spelled_fields s pre) (spelled_fields s (j ∷ post))
    (subst (λ xs. AreOf fields xs) (spelled_two t s pre (j ∷ post)) some) in
    let from = from_of j parts.1 (spelled_fields s (j ∷ post)) parts.4 (spelled_from s j post (rises_behind pre j post sorted)) in
    let same = prefix_same j parts.0 parts.1 (spelled_fields s pre) kept.0 parts.3 (spelled_below s j pre below) from
    (sym parts.2 ∙ kept.1) in
    let high = high_from t s j pre kept.0 below (subst (λ fs. FieldsFrom j fs) same.1 from) in
    subst (λ fs. AreThere t s fs pre) (sym kept.1)
    (all_there t s [] pre kept.0 (rising_front t s pre (j ∷ post) (rising t s (pre ++ j ∷ post) sorted)) (low_none t s pre) high)

-- the first of the faults at the end
first_of_two : (o : Option ℕ) (t : TableData) (xs : List FaultAt) (g : FaultAt) (ys : List FaultAt) → first_fault xs ≡ missing_fault t o
    → (fs : List FaultAt) × (xs ++ g ∷ ys ≡ unwrap_or (missing_fault t o) g ∷ fs)
first_of_two None t [] g ys h = (ys, refl)
first_of_two None t (x ∷ xs) g ys h = absurd cc
first_of_two (Some k) t [] g ys h = absurd cc
first_of_two (Some k) t (x ∷ xs) g ys h =
    let first : x ≡ at_member t k ([], Missing) = cc in (xs ++ g ∷ ys, ap (λ y. y ∷ (xs ++ g ∷ ys)) first)

-- a structure whose closed members have a fault: that one comes first, or a member before it that is missing
pub structure_faulty : (c : Codec) (p : Place) (ms : List (List ℕ × Node)) (f : MemberFrame) (g : FaultAt) → Shaped c.table
    → InTable c.table p
    → HoldsPairs c p (named_children_of c ms) None (structure_frame f) → f.fault ≡ Some g
    → (pre post : List ℕ) × (j : ℕ) × (members_of_place c.table p ≡ pre ++ j ∷ post) × (first_name g.0 ≡ name_at c.table j)
    × ((fs : List FaultAt) × (structure_reading c p (named_children_of c ms) ≡ Err
    (unwrap_or (missing_fault c.table (missing c.table f.fields pre)) g ∷ fs)))
structure_faulty c p ms f g shaped inside h e =
    let t = c.table in
    let s = under_names c p (named_children_of c ms) in
    let ks = members_of_place t p in
    let first = some_first (closed_faults t s ks) g (sym e ∙ h.1.fault) in
    let split = split_at_fault t s ks g first.0 first.1 in
    let pre = split.0 in
    let post = split.1 in
    let j = split.2 in
    let sorted = subst (λ xs. IsStrictlySortedBy nat_cmp xs) split.3 (shaped.rises (shape_of t p) (shape_in t p shaped inside)) in
    let some = subst (λ xs. AreOf f.fields (spelled_fields s xs)) split.3
    (kept_of (closed_faults t s ks) f.fields (spelled_fields s ks) h.1.fields) in
    let there = there_before t s f.fields pre j post sorted some (h.2 pre (j ∷ post) split.3 split.4) in
    let before = first_missing t s f.fields pre (all_stood t s pre (all_readings c p ms) split.4) there in
    let own = ap (λ r. under (Member (name_at t j)) (member_faults r)) (same_own t j (s j) g split.5.0 split.5.1) ∙ split.5.1 in
    let all : members_faults t (when_closed t) s ks
    ≡ members_faults t (when_closed t) s pre ++ g ∷ (split.5.0 ++ members_faults t (when_closed t) s post) =
    ap (members_faults t (when_closed t) s) split.3 ∙ ends_two t s pre (j ∷ post)
    ∙ ap (λ xs. members_faults t (when_closed t) s pre ++ (xs ++ members_faults t (when_closed t) s post)) own in
    let faults = first_of_two (missing t f.fields pre) t (members_faults t (when_closed t) s pre) g
    (split.5.0 ++ members_faults t (when_closed t) s post) before in (
      pre,
      post,
      j,
      split.3,
      named_by (name_at t j) (member_faults (member_reading so_far_absent j (s j))) g split.5.0 split.5.1,
      (
        faults.0,
        ap (λ fs. settled fs (structure_val (fields_of (members_fields (when_closed t) s ks)))) (all ∙ faults.1),
      ),
    )
  where
    some_first : (fs : List FaultAt) (x : FaultAt) → Some x ≡ first_fault fs → (gs : List FaultAt) × (fs ≡ x ∷ gs)
    some_first [] x i = absurd cc
    some_first (y ∷ fs) x i = let same : y ≡ x = cc in (fs, ap (λ z. z ∷ fs) same)

    named_by : (name : List ℕ) (own : List FaultAt) (x : FaultAt) (gs : List FaultAt) → under (Member name) own ≡ x ∷ gs
        → first_name x.0 ≡ name
    named_by name [] x gs i = absurd cc
    named_by name (y ∷ own) x gs i = let same : (Member name ∷ y.0, y.1) ≡ x = cc in sym (ap (λ z. first_name z.0) same)

ends_by : (c : Codec) (p : Place) (ms : List (List ℕ × Node)) (f : MemberFrame) (faults : List FaultAt) (fields : List (ℕ × Val))
    (o : Option ℕ)
    → structure_reading c p (named_children_of c ms) ≡ settled faults (structure_val (fields_of fields))
    → first_fault faults ≡ missing_fault c.table o → (o ≡ None → defaults_put c.table (members_of_place c.table p) f.fields ≡ fields)
    → StructureEnds c p ms f o
ends_by c p ms f faults fields None is i put =
    is ∙ ap (λ fs. settled fs (structure_val (fields_of fields))) (none_first_of faults i)
    ∙ ap (λ xs. ok_reading (structure_val (fields_of xs))) (sym (put refl))
  where
    none_first_of : (fs : List FaultAt) → first_fault fs ≡ None → fs ≡ []
    none_first_of [] e = refl
    none_first_of (y ∷ fs) e = absurd cc
ends_by c p ms f faults fields (Some k) is i put =
    let found = some_first faults (at_member c.table k ([], Missing)) i in
    (found.0, is ∙ ap (λ fs. settled fs (structure_val (fields_of fields))) found.1)
  where
    some_first : (fs : List FaultAt) (x : FaultAt) → first_fault fs ≡ Some x → (gs : List FaultAt) × (fs ≡ x ∷ gs)
    some_first [] x e = absurd cc
    some_first (y ∷ fs) x e = let same : y ≡ x = cc in (fs, ap (λ z. z ∷ fs) same)

-- one whose closed members have none: the first that is missing is its fault, or the defaults are put
pub structure_clean : (c : Codec) (p : Place) (ms : List (List ℕ × Node)) (f : MemberFrame) → Shaped c.table → InTable c.table p
    → HoldsPairs c p (named_children_of c ms) None (structure_frame f) → f.fault ≡ None
    → StructureEnds c p ms f (missing c.table f.fields (members_of_place c.table p))
structure_clean c p ms f shaped inside h e =
    let t = c.table in
    let s = under_names c p (named_children_of c ms) in
    let ks = members_of_place t p in
    let clean = no_first (closed_faults t s ks) (sym e ∙ h.1.fault) in
    let all = kept_all (closed_faults t s ks) f.fields (spelled_fields s ks) h.1.fields clean in
    let rise = rising t s ks (shaped.rises (shape_of t p) (shape_in t p shaped inside)) in
    let first = clean_ends t s f.fields ks (all_readings c p ms) clean rise all in
    ends_by c p ms f (members_faults t (when_closed t) s ks) (members_fields (when_closed t) s ks) (missing t f.fields ks) refl first
    (λ none. fields_end t s f.fields ks (all_readings c p ms) clean rise all none)
  where
    no_first : (fs : List FaultAt) → None ≡ first_fault fs → fs ≡ []
    no_first [] i = refl
    no_first (y ∷ fs) i = absurd cc
