-- A tree that is closed for a member of a structure, as the frame takes it: where the member stands for the first time, and where it
-- stands once more.
use Rattle.std.proofs.Common.{◌≡◌, inl, inr, ℕ, Bool, true, false, cond, List, [], ◌∷◌, ◌++◌, map, append_assoc, refl, sym, ap, ◌∙◌}
use Rattle.std.proofs.Common.{subst, subst₂}
use Rattle.std.specs.Prelude.{Option, None, Result, Ok, Err}
use Rattle.std.specs.List.Sorted.{IsPermutation}
use Rattle.std.proofs.lemmas.List.Sorted.{IsPermutation-middle, IsPermutation-sym, IsPermutation-trans, IsPermutation-cons}
use Rattle.sm_tree.specs.declared.path.Step.TheVariants.{Member}
use Rattle.sm_shapes.specs.Names.{AllDiffer}
use Rattle.sm_shapes.specs.Values.{Val}
use Rattle.sm_shapes.specs.TableData.{TableData, name_at}
use Rattle.sm_shapes.specs.Places.{member_place}
use Rattle.sm_shapes.specs.declared.fault.FaultKind.TheVariants.{Repeated}
use Rattle.sm_shapes.specs.FieldPuts.{put_field}
use Rattle.sm_codec.specs.FaultLists.{FaultAt, Reading, under, first_fault}
use Rattle.sm_codec.specs.Readings.{Child, ByMember, one_here, present_reading, member_reading, member_faults, member_fields, so_far_absent}
use Rattle.sm_codec.specs.Kept.{AreOf, AreKept, each_field, spelled_fields, has_one, closed_members, closed_faults}
use Rattle.sm_codec.specs.steps.MemberSteps.{least_fault}
use Rattle.sm_codec.proofs.NoFaults.{none_first, none_behind}
use Rattle.sm_codec.proofs.MembersKept.{FieldsAbove, kept_of, kept_from, of_two, two_splits, below_of, above_of, put_behind, put_between}
use Rattle.sm_codec.proofs.MembersKept.{from_above, prefix_same, kept_put, kept_grown}
use Rattle.sm_codec.proofs.Joined.{Agree, agree_front, joined_two}
use Rattle.sm_codec.proofs.MemberParts.{AllBelow, AllAbove, own_faults, faults_two, spelled_two, closed_two, faults_agree, spelled_agree}
use Rattle.sm_codec.proofs.MemberParts.{closed_agree, spelled_below, spelled_above, least_of_all}

-- the values of all members that stand before the first with a fault are kept
abbrev pub HasPrefix : TableData → List ℕ → ByMember → List (ℕ × Val) → Type 0
HasPrefix t ms s fields =
    (before behind : List ℕ) → ms ≡ before ++ behind → closed_faults t s before ≡ []
    → (rest : List (ℕ × Val)) × (fields ≡ spelled_fields s before ++ rest)

-- what a structure's frame says of its closed members: those seen, the fault and the fields
abbrev pub AreHeld : TableData → List ℕ → ByMember → List ℕ → Option FaultAt → List (ℕ × Val) → Type 0
AreHeld t ms s seen fault fields =
    IsPermutation seen (closed_members s ms) × (fault ≡ first_fault (closed_faults t s ms))
    × AreKept (closed_faults t s ms) fields (spelled_fields s ms) × HasPrefix t ms s fields

abbrev repeated : TableData → ℕ → FaultAt
repeated t k = (Member (name_at t k) ∷ [], Repeated)

-- more than one tree is a fault
two_read : (k : ℕ) (a x : Child) (cs : List Child) → member_reading so_far_absent k (a ∷ (cs ++ x ∷ [])) ≡ Err (one_here Repeated)
two_read k a x [] = refl
two_read k a x (b ∷ bs) = refl

pub each_two : (k : ℕ) (xs ys : List Child) → each_field k (xs ++ ys) ≡ each_field k xs ++ each_field k ys
each_two k xs ys =
    joined_two (λ x. cond x.null [] (member_fields k (present_reading (x.reading (member_place k))))) (each_field k)
    (refl, λ x zs. refl) xs ys

-- all faults and fields, where the same stands for all members but k
module _ (t : TableData) (before : List ℕ) (k : ℕ) (s r : ByMember) where
  pub faults_now : (behind : List ℕ) (own : List FaultAt) → Agree r s before → Agree r s behind → own_faults t r k ≡ own
      → closed_faults t r (before ++ k ∷ behind) ≡ closed_faults t s before ++ (own ++ closed_faults t s behind)
  faults_now behind own front back e =
      faults_two t r before (k ∷ behind)
      ∙ ap (λ fs. fs ++ (own_faults t r k ++ closed_faults t r behind)) (faults_agree t r s before front)
      ∙ ap (λ fs. closed_faults t s before ++ (own_faults t r k ++ fs)) (faults_agree t r s behind back)
      ∙ ap (λ fs. closed_faults t s before ++ (fs ++ closed_faults t s behind)) e

  faults_then : (behind : List ℕ) (own : List FaultAt) → own_faults t s k ≡ own
      → closed_faults t s (before ++ k ∷ behind) ≡ closed_faults t s before ++ (own ++ closed_faults t s behind)
  faults_then behind own e =
      faults_two t s before (k ∷ behind) ∙ ap (λ fs. closed_faults t s before ++ (fs ++ closed_faults t s behind)) e

  pub fields_now : (behind : List ℕ) (own : List (ℕ × Val)) → Agree r s before → Agree r s behind → each_field k (r k) ≡ own
      → spelled_fields r (before ++ k ∷ behind) ≡ spelled_fields s before ++ (own ++ spelled_fields s behind)
  fields_now behind own front back e =
      spelled_two t r before (k ∷ behind)
      ∙ ap (λ fs. fs ++ (each_field k (r k) ++ spelled_fields r behind)) (spelled_agree t r s before front)
      ∙ ap (λ fs. spelled_fields s before ++ (each_field k (r k) ++ fs)) (spelled_agree t r s behind back)
      ∙ ap (λ fs. spelled_fields s before ++ (fs ++ spelled_fields s behind)) e

  pub fields_then : (behind : List ℕ) (own : List (ℕ × Val)) → each_field k (s k) ≡ own
      → spelled_fields s (before ++ k ∷ behind) ≡ spelled_fields s before ++ (own ++ spelled_fields s behind)
  fields_then behind own e =
      spelled_two t s before (k ∷ behind) ∙ ap (λ fs. spelled_fields s before ++ (fs ++ spelled_fields s behind)) e

  -- without a fault of all there is none of k now
  own_none : (mid : List ℕ) → Agree r s before → Agree r s mid → closed_faults t r (before ++ k ∷ mid) ≡ []
      → (closed_faults t s before ≡ []) × (own_faults t r k ≡ []) × (closed_faults t s mid ≡ [])
  own_none mid front back h =
      let all = sym (faults_now mid (own_faults t r k) front back refl) ∙ h in
      let rest = none_behind (closed_faults t s before) (own_faults t r k ++ closed_faults t s mid) all in (
        none_first (closed_faults t s before) (own_faults t r k ++ closed_faults t s mid) all,
        none_first (own_faults t r k) (closed_faults t s mid) rest,
        none_behind (own_faults t r k) (closed_faults t s mid) rest,
      )

  -- a prefix in which k doesn't stand
  before_it : (pre more : List ℕ) (fields : List (ℕ × Val)) → Agree r s before → before ≡ pre ++ more → closed_faults t r pre ≡ []
      → (closed_faults t s pre ≡ [] → (rest : List (ℕ × Val)) × (fields ≡ spelled_fields s pre ++ rest))
      → (rest : List (ℕ × Val)) × (fields ≡ spelled_fields r pre ++ rest)
  before_it pre more fields front e h old =
      let same = agree_front r s pre more (subst (λ ks. Agree r s ks) e front) in
      let kept = old (sym (faults_agree t r s pre same) ∙ h) in
      (kept.0, kept.1 ∙ ap (λ fs. fs ++ kept.0) (sym (spelled_agree t r s pre same)))

  -- one in which it does, where nothing is put
  with_it : (pre mid : List ℕ) (fields : List (ℕ × Val)) → Agree r s before → Agree r s mid → pre ≡ before ++ k ∷ mid
      → closed_faults t r pre ≡ []
      → (own_faults t r k ≡ [] → (own_faults t s k ≡ []) × (each_field k (r k) ≡ each_field k (s k)))
      → (closed_faults t s pre ≡ [] → (rest : List (ℕ × Val)) × (fields ≡ spelled_fields s pre ++ rest))
      → (rest : List (ℕ × Val)) × (fields ≡ spelled_fields r pre ++ rest)
  with_it pre mid fields front back e h quiet old =
      let none = own_none mid front back (sym (ap (closed_faults t r) e) ∙ h) in
      let own = quiet none.1 in
      let clean : closed_faults t s pre ≡ [] =
      ap (closed_faults t s) e ∙ faults_then mid [] own.0
      ∙ ap (λ fs. fs ++ closed_faults t s mid) none.0 ∙ none.2 in
      let kept = old clean in
      let same : spelled_fields s pre ≡ spelled_fields r pre =
      ap (spelled_fields s) e ∙ fields_then mid (each_field k (s k)) refl ∙ sym (fields_now mid (each_field k (s k)) front back own.1)
      ∙ sym (ap (spelled_fields r) e) in
      (kept.0, kept.1 ∙ ap (λ fs. fs ++ kept.0) same)

  pub prefix_stays : (behind : List ℕ) (fields : List (ℕ × Val)) → Agree r s before → Agree r s behind
      → (own_faults t r k ≡ [] → (own_faults t s k ≡ []) × (each_field k (r k) ≡ each_field k (s k)))
      → HasPrefix t (before ++ k ∷ behind) s fields → HasPrefix t (before ++ k ∷ behind) r fields
  prefix_stays behind fields front back quiet old pre post e h =
      elim (two_splits pre post before k behind (sym e)) [
        | inl b ↦ before_it pre b.0 fields front b.1 h (old pre post e)
        | inr m ↦ with_it pre m.0 fields front (agree_front r s m.0 post (subst (λ ks. Agree r s ks) m.2 back)) m.1 h quiet (old pre post e)
      ]

  -- where a value is put
  put_with_it : (behind pre mid : List ℕ) (v : Val) (fields : List (ℕ × Val)) → AllBelow k before → AllAbove k behind
      → Agree r s before → Agree r s mid → pre ≡ before ++ k ∷ mid → closed_faults t r pre ≡ [] → own_faults t s k ≡ []
      → each_field k (s k) ≡ [] → each_field k (r k) ≡ (k, v) ∷ [] → AreOf fields (spelled_fields s before ++ spelled_fields s behind)
      → (closed_faults t s pre ≡ [] → (rest : List (ℕ × Val)) × (fields ≡ spelled_fields s pre ++ rest))
      → (rest : List (ℕ × Val)) × (put_field k v fields ≡ spelled_fields r pre ++ rest)
  put_with_it behind pre mid v fields below above front back e h quiet empty one some old =
      let none = own_none mid front back (sym (ap (closed_faults t r) e) ∙ h) in
      let clean : closed_faults t s pre ≡ [] =
      ap (closed_faults t s) e ∙ faults_then mid [] quiet ∙ ap (λ fs. fs ++ closed_faults t s mid) none.0 ∙ none.2 in
      let kept = old clean in
      let was : fields ≡ spelled_fields s before ++ (spelled_fields s mid ++ kept.0) =
      kept.1 ∙ ap (λ fs. fs ++ kept.0) (ap (spelled_fields s) e ∙ fields_then mid [] empty)
      ∙ append_assoc (spelled_fields s before) (spelled_fields s mid) kept.0 in
      let parts = of_two fields (spelled_fields s before) (spelled_fields s behind) some in
      let high = above_of k parts.1 (spelled_fields s behind) parts.4 (spelled_above s k behind above) in
      let same = prefix_same k parts.0 parts.1 (spelled_fields s before) (spelled_fields s mid ++ kept.0) parts.3
      (spelled_below s k before below) (from_above k parts.1 high) (sym parts.2 ∙ was) in
      let put : put_field k v fields ≡ spelled_fields s before ++ (k, v) ∷ (spelled_fields s mid ++ kept.0) =
      ap (put_field k v) was
      ∙ put_between k v (spelled_fields s before) (spelled_fields s mid ++ kept.0) (spelled_below s k before below)
      (subst (λ fs. FieldsAbove k fs) same.1 high) in
      let now : spelled_fields r pre ≡ spelled_fields s before ++ (k, v) ∷ spelled_fields s mid =
      ap (spelled_fields r) e ∙ fields_now mid ((k, v) ∷ []) front back one in (
        kept.0,
        put ∙ sym (append_assoc (spelled_fields s before) ((k, v) ∷ spelled_fields s mid) kept.0)
            ∙ ap (λ fs. fs ++ kept.0) (sym now),
      )

  put_before_it : (pre more : List ℕ) (v : Val) (fields : List (ℕ × Val)) → AllBelow k pre → Agree r s pre → closed_faults t r pre ≡ []
      → (closed_faults t s pre ≡ [] → (rest : List (ℕ × Val)) × (fields ≡ spelled_fields s pre ++ rest))
      → (rest : List (ℕ × Val)) × (put_field k v fields ≡ spelled_fields r pre ++ rest)
  put_before_it pre more v fields below same h old =
      let kept = old (sym (faults_agree t r s pre same) ∙ h) in (
        put_field k v kept.0,
        ap (put_field k v) kept.1 ∙ put_behind k v (spelled_fields s pre) kept.0 (spelled_below s k pre below)
            ∙ ap (λ fs. fs ++ put_field k v kept.0) (sym (spelled_agree t r s pre same)),
      )

  below_front : (ks js : List ℕ) → AllBelow k (ks ++ js) → AllBelow k ks
  below_front [] js h = tt
  below_front (i ∷ ks) js h = (h.0, below_front ks js h.1)

  pub prefix_put : (behind : List ℕ) (v : Val) (fields : List (ℕ × Val)) → AllBelow k before → AllAbove k behind → Agree r s before
      → Agree r s behind → own_faults t s k ≡ [] → each_field k (s k) ≡ [] → each_field k (r k) ≡ (k, v) ∷ []
      → AreOf fields (spelled_fields s before ++ spelled_fields s behind)
      → HasPrefix t (before ++ k ∷ behind) s fields → HasPrefix t (before ++ k ∷ behind) r (put_field k v fields)
  prefix_put behind v fields below above front back quiet empty one some old pre post e h =
      elim (two_splits pre post before k behind (sym e)) [
        | inl b ↦ put_before_it pre b.0 v fields (below_front pre b.0 (subst (AllBelow k) b.1 below))
            (agree_front r s pre b.0 (subst (λ ks. Agree r s ks) b.1 front)) h (old pre post e)
        | inr m ↦ put_with_it behind pre m.0 v fields below above front
            (agree_front r s m.0 post (subst (λ ks. Agree r s ks) m.2 back)) m.1 h
            quiet empty one some (old pre post e)
      ]

-- what a tree that is closed comes to
abbrev pub IsNullChild : Child → Type 0
IsNullChild child = child.null ≡ true

abbrev pub ComesTo : ℕ → Child → Reading → Type 0
ComesTo k child found = (child.null ≡ false) × (child.reading (member_place k) ≡ found)

-- one tree of a member by itself
own_of : (t : TableData) (r : ByMember) (k : ℕ) (children : List Child) → r k ≡ children
    → own_faults t r k ≡ under (Member (name_at t k)) (member_faults (member_reading so_far_absent k children))
own_of t r k children e = ap (λ cs. under (Member (name_at t k)) (member_faults (member_reading so_far_absent k cs))) e

module _ (t : TableData) (k : ℕ) (child : Child) where
  abbrev read_by : Bool → Reading → Result (Option Val) (List FaultAt)
  read_by null found = cond null (Ok None) (present_reading found)

  own_null : (r : ByMember) → r k ≡ child ∷ [] → IsNullChild child → own_faults t r k ≡ []
  own_null r e null =
      own_of t r k (child ∷ []) e
      ∙ ap (λ b. under (Member (name_at t k)) (member_faults (read_by b (child.reading (member_place k))))) null

  pub each_null : (r : ByMember) → r k ≡ child ∷ [] → IsNullChild child → each_field k (r k) ≡ []
  each_null r e null =
      ap (each_field k) e ∙ ap (λ b. cond b [] (member_fields k (present_reading (child.reading (member_place k)))) ++ []) null

  own_found : (r : ByMember) (found : Reading) → r k ≡ child ∷ [] → ComesTo k child found
      → own_faults t r k ≡ under (Member (name_at t k)) (member_faults (present_reading found))
  own_found r found e is =
      own_of t r k (child ∷ []) e
      ∙ ap (λ b. under (Member (name_at t k)) (member_faults (read_by b (child.reading (member_place k))))) is.0
      ∙ ap (λ x. under (Member (name_at t k)) (member_faults (present_reading x))) is.1

  pub each_found : (r : ByMember) (found : Reading) → r k ≡ child ∷ [] → ComesTo k child found
      → each_field k (r k) ≡ member_fields k (present_reading found) ++ []
  each_found r found e is =
      ap (each_field k) e
      ∙ ap (λ b. cond b [] (member_fields k (present_reading (child.reading (member_place k)))) ++ []) is.0
      ∙ ap (λ x. member_fields k (present_reading x) ++ []) is.1

  own_again : (r : ByMember) (a : Child) (cs : List Child) → r k ≡ a ∷ (cs ++ child ∷ []) → own_faults t r k ≡ repeated t k ∷ []
  own_again r a cs e =
      own_of t r k (a ∷ (cs ++ child ∷ [])) e ∙ ap (λ x. under (Member (name_at t k)) (member_faults x)) (two_read k a child cs)

-- a tree for the member k, in a structure with these members: s is what stood for each, r what stands now
pub record Arrives (t : TableData) (before : List ℕ) (k : ℕ) (behind : List ℕ) (s r : ByMember) (child : Child) : Type 0 where
  pub differ : AllDiffer (map (name_at t) (before ++ k ∷ behind))
  pub below : AllBelow k before
  pub above : AllAbove k behind
  pub front : Agree r s before
  pub back : Agree r s behind
  pub here : r k ≡ s k ++ child ∷ []

-- the members that are seen
module _ (t : TableData) (before : List ℕ) (k : ℕ) (behind : List ℕ) (s r : ByMember) (child : Child) where
  members_by : (cs : List Child) → s k ≡ cs
      → closed_members s (before ++ k ∷ behind) ≡ closed_members s before ++ cond (has_one cs) (k ∷ closed_members s behind)
      (closed_members s behind)
  members_by cs e =
      closed_two t s before (k ∷ behind)
      ∙ ap (λ xs. closed_members s before ++ cond (has_one xs) (k ∷ closed_members s behind) (closed_members s behind)) e

  members_now : (cs : List Child) → Agree r s before → Agree r s behind → r k ≡ cs
      → closed_members r (before ++ k ∷ behind) ≡ closed_members s before ++ cond (has_one cs) (k ∷ closed_members s behind)
      (closed_members s behind)
  members_now cs front back e =
      closed_two t r before (k ∷ behind)
      ∙ ap (λ xs. xs ++ cond (has_one (r k)) (k ∷ closed_members r behind) (closed_members r behind)) (closed_agree t r s before front)
      ∙ ap (λ xs. closed_members s before ++ cond (has_one (r k)) (k ∷ xs) xs) (closed_agree t r s behind back)
      ∙ ap (λ xs. closed_members s before ++ cond (has_one xs) (k ∷ closed_members s behind) (closed_members s behind)) e

  pub seen_first : (seen now : List ℕ) → Agree r s before → Agree r s behind → s k ≡ [] → r k ≡ child ∷ [] → IsPermutation (k ∷ seen) now
      → IsPermutation seen (closed_members s (before ++ k ∷ behind)) → IsPermutation now (closed_members r (before ++ k ∷ behind))
  seen_first seen now front back none one put old =
      let was = subst (λ xs. IsPermutation seen xs) (members_by [] none) old in
      let more = IsPermutation-cons k seen (closed_members s before ++ closed_members s behind) was in
      let middle = IsPermutation-sym _ _ (IsPermutation-middle (closed_members s before) k (closed_members s behind)) in
      subst (λ xs. IsPermutation now xs) (sym (members_now (child ∷ []) front back one))
      (IsPermutation-trans _ _ _ (IsPermutation-sym _ _ put) (IsPermutation-trans _ _ _ more middle))

  pub seen_again : (seen : List ℕ) (a : Child) (cs bs : List Child) → Agree r s before → Agree r s behind → s k ≡ a ∷ cs → r k ≡ a ∷ bs
      → IsPermutation seen (closed_members s (before ++ k ∷ behind)) → IsPermutation seen (closed_members r (before ++ k ∷ behind))
  seen_again seen a cs bs front back old now h =
      subst (λ xs. IsPermutation seen xs) (members_by (a ∷ cs) old ∙ sym (members_now (a ∷ bs) front back now)) h

-- How a frame takes the tree.
module _ (t : TableData) (before : List ℕ) (k : ℕ) (behind : List ℕ) (s r : ByMember) (child : Child) where
  abbrev ms : List ℕ
  ms = before ++ k ∷ behind

  abbrev Arrived : Type 0
  Arrived = Arrives t before k behind s r child

  one_now : Arrived → s k ≡ [] → r k ≡ child ∷ []
  one_now a none = a.here ∙ ap (λ cs. cs ++ child ∷ []) none

  own_before : s k ≡ [] → own_faults t s k ≡ []
  own_before none = own_of t s k [] none

  each_before : s k ≡ [] → each_field k (s k) ≡ []
  each_before none = ap (each_field k) none

  -- faults and fields that are as they were
  same_faults : Arrived → s k ≡ [] → own_faults t r k ≡ [] → closed_faults t r ms ≡ closed_faults t s ms
  same_faults a none quiet =
      faults_now t before k s r behind [] a.front a.back quiet ∙ sym (faults_then t before k s r behind [] (own_before none))

  same_fields : Arrived → s k ≡ [] → each_field k (r k) ≡ [] → spelled_fields r ms ≡ spelled_fields s ms
  same_fields a none empty =
      fields_now t before k s r behind [] a.front a.back empty ∙ sym (fields_then t before k s r behind [] (each_before none))

  -- null, for the first time
  pub null_held : (seen now : List ℕ) (fault : Option FaultAt) (fields : List (ℕ × Val)) → Arrived → s k ≡ [] → IsNullChild child
      → IsPermutation (k ∷ seen) now → AreHeld t ms s seen fault fields → AreHeld t ms r now fault fields
  null_held seen now fault fields a none null put h =
      let one = one_now a none in
      let own = own_null t k child r one null in
      let each = each_null t k child r one null in
      let faults = same_faults a none own in (
        seen_first t before k behind s r child seen now a.front a.back none one put h.0,
        h.1 ∙ ap first_fault (sym faults),
        subst (λ fs. AreKept fs fields (spelled_fields r ms)) (sym faults)
            (subst (λ xs. AreKept (closed_faults t s ms) fields xs) (sym (same_fields a none each)) h.2),
        prefix_stays t before k s r behind fields a.front a.back (λ e. (own_before none, each ∙ sym (each_before none))) h.3,
      )

  -- a value, for the first time
  pub value_held : (seen now : List ℕ) (v : Val) (fault : Option FaultAt) (fields : List (ℕ × Val)) → Arrived → s k ≡ []
      → ComesTo k child (Ok v) → IsPermutation (k ∷ seen) now → AreHeld t ms s seen fault fields
      → AreHeld t ms r now fault (put_field k v fields)
  value_held seen now v fault fields a none is put h =
      let one = one_now a none in
      let own = own_found t k child r (Ok v) one is in
      let each = each_found t k child r (Ok v) one is in
      let faults = same_faults a none own in
      let lower = spelled_fields s before in
      let upper = spelled_fields s behind in
      let was = fields_then t before k s r behind [] (each_before none) in
      let is_now = fields_now t before k s r behind ((k, v) ∷ []) a.front a.back each in
      let some = subst (λ xs. AreOf fields xs) was (kept_of (closed_faults t s ms) fields (spelled_fields s ms) h.2) in
      let kept = kept_put (put_field k v) (k, v) (closed_faults t s ms) fields lower upper
      (λ es hs b d. put_between k v es hs (below_of k es lower b (spelled_below s k before a.below))
      (above_of k hs upper d (spelled_above s k behind a.above)))
      (subst (λ xs. AreKept (closed_faults t s ms) fields xs) was h.2) in (
        seen_first t before k behind s r child seen now a.front a.back none one put h.0,
        h.1 ∙ ap first_fault (sym faults),
        subst₂ (λ fs xs. AreKept fs (put_field k v fields) xs) (sym faults) (sym is_now) kept,
        prefix_put t before k s r behind v fields a.below a.above a.front a.back (own_before none) (each_before none) each some h.3,
      )

  -- where k has a fault now, it is the least of all or the old one is
  fault_now : (new : FaultAt) (more : List FaultAt) (fault : Option FaultAt) → Arrived → own_faults t r k ≡ new ∷ more
      → fault ≡ first_fault (closed_faults t s ms) → least_fault t ms k new fault ≡ first_fault (closed_faults t r ms)
  fault_now new more fault a own old =
      ap (least_fault t ms k new) old
      ∙ sym (ap first_fault (faults_now t before k s r behind (new ∷ more) a.front a.back own)
      ∙ least_of_all t before k behind s new more a.differ a.below a.above)

  never_none : (new : FaultAt) (more : List FaultAt) → Arrived → own_faults t r k ≡ new ∷ more → closed_faults t r ms ≡ [] → ⊥
  never_none new more a own e =
      let none = (own_none t before k s r behind a.front a.back e).1 in
      let both : new ∷ more ≡ [] = sym own ∙ none in cc

  -- a fault, for the first time
  pub fault_held : (seen now : List ℕ) (g : FaultAt) (gs : List FaultAt) (fault : Option FaultAt) (fields : List (ℕ × Val)) → Arrived
      → s k ≡ [] → ComesTo k child (Err (g ∷ gs)) → IsPermutation (k ∷ seen) now → AreHeld t ms s seen fault fields
      → AreHeld t ms r now (least_fault t ms k (Member (name_at t k) ∷ g.0, g.1) fault) fields
  fault_held seen now g gs fault fields a none is put h =
      let one = one_now a none in
      let new : FaultAt = (Member (name_at t k) ∷ g.0, g.1) in
      let more = under (Member (name_at t k)) gs in
      let own = own_found t k child r (Err (g ∷ gs)) one is in
      let each = each_found t k child r (Err (g ∷ gs)) one is in
      let some = subst (λ xs. AreOf fields xs) (sym (same_fields a none each))
      (kept_of (closed_faults t s ms) fields (spelled_fields s ms) h.2) in (
        seen_first t before k behind s r child seen now a.front a.back none one put h.0,
        fault_now new more fault a own h.1,
        kept_from (closed_faults t r ms) fields (spelled_fields r ms) some (λ e. absurd (never_none new more a own e)),
        prefix_stays t before k s r behind fields a.front a.back (λ e. absurd (clash new more (sym own ∙ e))) h.3,
      )
    where
      clash : (new : FaultAt) (more : List FaultAt) → new ∷ more ≡ [] → ⊥
      clash new more e = cc

  -- a name that stands once more
  pub again_held : (seen : List ℕ) (b : Child) (bs : List Child) (fault : Option FaultAt) (fields : List (ℕ × Val)) → Arrived → s k ≡ b ∷ bs
      → AreHeld t ms s seen fault fields → AreHeld t ms r seen (least_fault t ms k (repeated t k) fault) fields
  again_held seen b bs fault fields a some_before h =
      let two : r k ≡ b ∷ (bs ++ child ∷ []) = a.here ∙ ap (λ cs. cs ++ child ∷ []) some_before in
      let own = own_again t k child r b bs two in
      let grown : each_field k (r k) ≡ each_field k (s k) ++ each_field k (child ∷ []) =
      ap (each_field k) a.here ∙ each_two k (s k) (child ∷ []) in
      let kept = kept_grown (closed_faults t s ms) (closed_faults t r ms) fields (spelled_fields s before) (each_field k (s k))
      (each_field k (child ∷ [])) (spelled_fields s behind) (never_none (repeated t k) [] a own)
      (subst (λ xs. AreKept (closed_faults t s ms) fields xs) (fields_then t before k s r behind (each_field k (s k)) refl) h.2) in
      let is_now = fields_now t before k s r behind (each_field k (s k) ++ each_field k (child ∷ [])) a.front a.back grown in (
        seen_again t before k behind s r child seen b bs (bs ++ child ∷ []) a.front a.back some_before two h.0,
        fault_now (repeated t k) [] fault a own h.1,
        subst (λ xs. AreKept (closed_faults t r ms) fields xs) (sym is_now) kept,
        prefix_stays t before k s r behind fields a.front a.back (λ e. absurd (clash (repeated t k) (sym own ∙ e))) h.3,
      )
    where
      clash : (new : FaultAt) → new ∷ [] ≡ [] → ⊥
      clash new e = cc
