-- What the closed places of some members come to, by what stands for each: of members in two parts, and where the same stands.
use Rattle.std.proofs.Common.{◌≡◌, ◌⊎◌, inl, inr, ℕ, ◌<◌, ◌≤◌, nat_le, Bool, true, false, cond, List, [], ◌∷◌, ◌++◌, map, refl, sym, ap}
use Rattle.std.proofs.Common.{◌∙◌, subst, arith}
use Rattle.std.specs.Prelude.{Some, Ok, Err}
use Rattle.std.specs.List.Sorted.{IsStrictlySortedBy}
use Rattle.std.specs.Ordering.{nat_cmp}
use Rattle.std.specs.List.{AllByRecursion}
use Rattle.std.specs.declared.cmp.Ordering.TheVariants.{Less}
use Rattle.std.proofs.lemmas.Cmp.{ranked}
use Rattle.std.proofs.lemmas.List.Elements.{filter-append}
use Rattle.sm_tree.specs.declared.path.Step.TheVariants.{Member}
use Rattle.sm_shapes.specs.Names.{AllDiffer}
use Rattle.sm_shapes.specs.Values.{Val}
use Rattle.sm_shapes.specs.TableData.{TableData, name_at, member_with}
use Rattle.sm_shapes.specs.Places.{member_place}
use Rattle.sm_shapes.proofs.NamedMembers.{IsAmong, found}
use Rattle.sm_shapes.specs.FieldPuts.{FieldsFrom}
use Rattle.sm_codec.specs.FaultLists.{FaultAt, Reading, under, first_fault}
use Rattle.sm_codec.specs.Readings.{Child, ByMember, present_reading, member_reading, member_faults, member_fields, so_far_absent}
use Rattle.sm_codec.specs.Kept.{each_field, spelled_fields, has_one, closed_members, closed_faults}
use Rattle.sm_codec.specs.steps.MemberSteps.{first_name, gives_way, least_fault}
use Rattle.sm_codec.proofs.Joined.{Agree, joined_two, joined_agree}
use Rattle.sm_codec.proofs.LeastFault.{HeadGives, least_of_parts}
use Rattle.sm_codec.proofs.MembersKept.{FieldsBelow, FieldsAbove, from_above, below_joined, above_joined}

abbrev pub AllBelow : ℕ → List ℕ → Type 0
AllBelow k [] = Unit {0}
AllBelow k (j ∷ js) = (j < k) × AllBelow k js

abbrev pub AllAbove : ℕ → List ℕ → Type 0
AllAbove k [] = Unit {0}
AllAbove k (j ∷ js) = (k < j) × AllAbove k js

pub below_one : (k j : ℕ) (ks : List ℕ) → AllBelow k ks → IsAmong j ks → j < k
below_one k j [] h i = absurd i
below_one k j (x ∷ ks) h (inl e) = subst (λ y. y < k) (sym e) h.0
below_one k j (x ∷ ks) h (inr i) = below_one k j ks h.1 i

pub above_one : (k j : ℕ) (ks : List ℕ) → AllAbove k ks → IsAmong j ks → k < j
above_one k j [] h i = absurd i
above_one k j (x ∷ ks) h (inl e) = subst (λ y. k < y) (sym e) h.0
above_one k j (x ∷ ks) h (inr i) = above_one k j ks h.1 i

pub among_front : (j : ℕ) (ks js : List ℕ) → IsAmong j ks → IsAmong j (ks ++ js)
among_front j [] js i = absurd i
among_front j (k ∷ ks) js (inl e) = inl e
among_front j (k ∷ ks) js (inr i) = inr (among_front j ks js i)

pub among_behind : (j : ℕ) (ks js : List ℕ) → IsAmong j js → IsAmong j (ks ++ js)
among_behind j [] js i = i
among_behind j (k ∷ ks) js i = inr (among_behind j ks js i)

-- in numbers that rise, those before one and those behind it
pub above_from : (k : ℕ) (ks : List ℕ) → AllByRecursion (λ y. nat_cmp k y ≡ Less) ks → AllAbove k ks
above_from k [] h = tt
above_from k (j ∷ ks) h = (ranked k j Less (sym h.0), above_from k ks h.1)

above_middle : (j : ℕ) (before : List ℕ) (k : ℕ) (behind : List ℕ) → AllAbove j (before ++ k ∷ behind) → j < k
above_middle j [] k behind h = h.0
above_middle j (i ∷ before) k behind h = above_middle j before k behind h.1

pub rises_behind : (before : List ℕ) (k : ℕ) (behind : List ℕ) → IsStrictlySortedBy nat_cmp (before ++ k ∷ behind) → AllAbove k behind
unfolding IsStrictlySortedBy
rises_behind [] k behind h = above_from k behind h.0
rises_behind (j ∷ before) k behind h = rises_behind before k behind h.1

pub rises_before : (before : List ℕ) (k : ℕ) (behind : List ℕ) → IsStrictlySortedBy nat_cmp (before ++ k ∷ behind) → AllBelow k before
unfolding IsStrictlySortedBy
rises_before [] k behind h = tt
rises_before (j ∷ before) k behind h =
    (above_middle j before k behind (above_from j (before ++ k ∷ behind) h.0), rises_before before k behind h.1)

abbrev pub own_faults : TableData → ByMember → ℕ → List FaultAt
own_faults t s k = under (Member (name_at t k)) (member_faults (member_reading so_far_absent k (s k)))

module _ (t : TableData) (s : ByMember) where
  pub faults_two : (ks js : List ℕ) → closed_faults t s (ks ++ js) ≡ closed_faults t s ks ++ closed_faults t s js
  faults_two ks js = joined_two (own_faults t s) (closed_faults t s) (refl, λ k ms. refl) ks js

  pub spelled_two : (ks js : List ℕ) → spelled_fields s (ks ++ js) ≡ spelled_fields s ks ++ spelled_fields s js
  spelled_two ks js = joined_two (λ k. each_field k (s k)) (spelled_fields s) (refl, λ k ms. refl) ks js

  pub closed_two : (ks js : List ℕ) → closed_members s (ks ++ js) ≡ closed_members s ks ++ closed_members s js
  closed_two ks js = filter-append (λ k. has_one (s k)) ks js

module _ (t : TableData) (s r : ByMember) where
  pub faults_agree : (ks : List ℕ) → Agree s r ks → closed_faults t s ks ≡ closed_faults t r ks
  faults_agree ks h =
      joined_agree (λ k cs. under (Member (name_at t k)) (member_faults (member_reading so_far_absent k cs))) s r (closed_faults t s)
      (closed_faults t r)
      (refl, λ k ms. refl) (refl, λ k ms. refl) ks h

  pub spelled_agree : (ks : List ℕ) → Agree s r ks → spelled_fields s ks ≡ spelled_fields r ks
  spelled_agree ks h =
      joined_agree (λ k cs. each_field k cs) s r (spelled_fields s) (spelled_fields r) (refl, λ k ms. refl) (refl, λ k ms. refl) ks h

  pub closed_agree : (ks : List ℕ) → Agree s r ks → closed_members s ks ≡ closed_members r ks
  closed_agree [] h = refl
  closed_agree (k ∷ ks) h =
      ap (λ cs. cond (has_one cs) (k ∷ closed_members s ks) (closed_members s ks)) h.0
      ∙ ap (λ js. cond (has_one (r k)) (k ∷ js) js) (closed_agree ks h.1)

-- the values of a member stand at its number
abbrev pub FieldsOf : ℕ → List (ℕ × Val) → Type 0
FieldsOf k [] = Unit {0}
FieldsOf k (f ∷ fs) = (f.0 ≡ k) × FieldsOf k fs

below_here : (j k : ℕ) (fs : List (ℕ × Val)) → FieldsOf j fs → j < k → FieldsBelow k fs
below_here j k [] h lt = tt
below_here j k (f ∷ fs) h lt = (subst (λ x. x < k) (sym h.0) lt, below_here j k fs h.1 lt)

above_here : (j k : ℕ) (fs : List (ℕ × Val)) → FieldsOf j fs → k < j → FieldsAbove k fs
above_here j k [] h lt = tt
above_here j k (f ∷ fs) h lt = (subst (λ x. k < x) (sym h.0) lt, above_here j k fs h.1 lt)

of_both : (k : ℕ) (fs gs : List (ℕ × Val)) → FieldsOf k fs → FieldsOf k gs → FieldsOf k (fs ++ gs)
of_both k [] gs h g = g
of_both k (f ∷ fs) gs h g = (h.0, of_both k fs gs h.1 g)

of_reading : (k : ℕ) (r : Reading) → FieldsOf k (member_fields k (present_reading r))
of_reading k (Ok v) = (refl, tt)
of_reading k (Err fs) = tt

of_child : (k : ℕ) (b : Bool) (r : Reading) → FieldsOf k (cond b [] (member_fields k (present_reading r)))
of_child k true r = tt
of_child k false r = of_reading k r

pub of_each : (k : ℕ) (children : List Child) → FieldsOf k (each_field k children)
of_each k [] = tt
of_each k (child ∷ children) =
    of_both k (cond child.null [] (member_fields k (present_reading (child.reading (member_place k))))) (each_field k children)
    (of_child k child.null (child.reading (member_place k))) (of_each k children)

pub spelled_below : (s : ByMember) (k : ℕ) (ks : List ℕ) → AllBelow k ks → FieldsBelow k (spelled_fields s ks)
spelled_below s k [] h = tt
spelled_below s k (j ∷ ks) h =
    below_joined k (each_field j (s j)) (spelled_fields s ks) (below_here j k (each_field j (s j)) (of_each j (s j)) h.0)
    (spelled_below s k ks h.1)

pub spelled_above : (s : ByMember) (k : ℕ) (ks : List ℕ) → AllAbove k ks → FieldsAbove k (spelled_fields s ks)
spelled_above s k [] h = tt
spelled_above s k (j ∷ ks) h =
    above_joined k (each_field j (s j)) (spelled_fields s ks) (above_here j k (each_field j (s j)) (of_each j (s j)) h.0)
    (spelled_above s k ks h.1)

pub each_below : (j k : ℕ) (children : List Child) → j < k → FieldsBelow k (each_field j children)
each_below j k children lt = below_here j k (each_field j children) (of_each j children) lt

pub from_each : (k : ℕ) (fs : List (ℕ × Val)) → FieldsOf k fs → FieldsFrom k fs
from_each k [] h = tt
from_each k (f ∷ fs) h = (subst (λ x. k ≤ x) (sym h.0) (omega arith), from_each k fs h.1)

pub from_both : (k : ℕ) (fs gs : List (ℕ × Val)) → FieldsFrom k fs → FieldsFrom k gs → FieldsFrom k (fs ++ gs)
from_both k [] gs h g = g
from_both k (f ∷ fs) gs h g = (h.0, from_both k fs gs h.1 g)

pub spelled_from : (s : ByMember) (k : ℕ) (ks : List ℕ) → AllAbove k ks → FieldsFrom k (spelled_fields s (k ∷ ks))
spelled_from s k ks h =
    from_both k (each_field k (s k)) (spelled_fields s ks) (from_each k (each_field k (s k)) (of_each k (s k)))
    (from_above k (spelled_fields s ks) (spelled_above s k ks h))

-- the first fault of some members names the one that it stands at
first_in : (name : List ℕ) (own rest : List FaultAt) (f : FaultAt) (fs : List FaultAt) → under (Member name) own ++ rest ≡ f ∷ fs
    → (first_name f.0 ≡ name) ⊎ (rest ≡ f ∷ fs)
first_in name [] rest f fs h = inr h
first_in name (g ∷ own) rest f fs h =
    let first : (Member name ∷ g.0, g.1) ≡ f = cc in inl (sym (ap (λ x. first_name x.0) first))

pub first_names : (t : TableData) (s : ByMember) (ks : List ℕ) (f : FaultAt) (fs : List FaultAt) → closed_faults t s ks ≡ f ∷ fs
    → (j : ℕ) × IsAmong j ks × (first_name f.0 ≡ name_at t j)
first_names t s [] f fs h = absurd cc
first_names t s (k ∷ ks) f fs h =
    elim (first_in (name_at t k) (member_faults (member_reading so_far_absent k (s k))) (closed_faults t s ks) f fs h) [
      | inl e ↦ (k, inl refl, e)
      | inr g ↦ let more = first_names t s ks f fs g in (more.0, inr more.1, more.2)
    ]

-- which faults are kept, where k has one now
module _ (t : TableData) (before : List ℕ) (k : ℕ) (behind : List ℕ) where
  abbrev members : List ℕ
  members = before ++ k ∷ behind

  at_name : (old : FaultAt) (j : ℕ) → AllDiffer (map (name_at t) members) → IsAmong j members → first_name old.0 ≡ name_at t j
      → member_with (name_at t) (first_name old.0) members ≡ Some j
  at_name old j differ i e = ap (λ w. member_with (name_at t) w members) e ∙ found (name_at t) j members differ i

  -- a fault before k stays, one at k or behind it gives way
  abbrev gives : FaultAt → Bool
  gives f = gives_way k (member_with (name_at t) (first_name f.0) members)

  gives_by : (f : FaultAt) (j : ℕ) (b : Bool) → AllDiffer (map (name_at t) members) → IsAmong j members → first_name f.0 ≡ name_at t j
      → nat_le k j ≡ b → gives f ≡ b
  gives_by f j b differ i e g = ap (gives_way k) (at_name f j differ i e) ∙ g

  stays_before : (s : ByMember) (fs : List FaultAt) → AllDiffer (map (name_at t) members) → AllBelow k before
      → closed_faults t s before ≡ fs
      → HeadGives gives false fs
  stays_before s [] differ below h = tt
  stays_before s (f ∷ fs) differ below h =
      let named = first_names t s before f fs h in
      let lt : named.0 < k = below_one k named.0 before below named.1 in
      gives_by f named.0 false differ (among_front named.0 before (k ∷ behind) named.1) named.2 (grind (arith, lt))

  gives_behind : (s : ByMember) (fs : List FaultAt) → AllDiffer (map (name_at t) members) → AllAbove k behind
      → closed_faults t s behind ≡ fs
      → HeadGives gives true fs
  gives_behind s [] differ above h = tt
  gives_behind s (f ∷ fs) differ above h =
      let named = first_names t s behind f fs h in
      let lt : k < named.0 = above_one k named.0 behind above named.1 in
      gives_by f named.0 true differ (among_behind named.0 before (k ∷ behind) (inr named.1)) named.2 (grind (arith, lt))

  gives_here : (s : ByMember) (own : List FaultAt) → AllDiffer (map (name_at t) members) → AllAbove k behind
      → HeadGives gives true (under (Member (name_at t k)) own ++ closed_faults t s behind)
  gives_here s [] differ above = gives_behind s (closed_faults t s behind) differ above refl
  gives_here s (g ∷ own) differ above =
      gives_by (Member (name_at t k) ∷ g.0, g.1) k true differ (among_behind k before (k ∷ behind) (inl refl)) refl (grind (arith))

  -- so the first fault of all is kept
  pub least_of_all : (s : ByMember) (new : FaultAt) (more : List FaultAt) → AllDiffer (map (name_at t) members) → AllBelow k before
      → AllAbove k behind
      → first_fault (closed_faults t s before ++ ((new ∷ more) ++ closed_faults t s behind))
      ≡ least_fault t members k new (first_fault (closed_faults t s members))
  least_of_all s new more differ below above =
      least_of_parts gives new more (own_faults t s k) (closed_faults t s before) (closed_faults t s behind)
      (stays_before s (closed_faults t s before) differ below refl)
      (gives_here s (member_faults (member_reading so_far_absent k (s k))) differ above)
      ∙ ap (λ fs. least_fault t members k new (first_fault fs)) (sym (faults_two t s before (k ∷ behind)))
