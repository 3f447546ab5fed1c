-- A pair that is closed in a union: the name finds one member, or none, and the frame takes its tree; and where the union ends.
use Rattle.std.proofs.Common.{◌≡◌, ℕ, nat_eq, Bool, true, false, MatchBool, List, [], ◌∷◌, ◌++◌, refl, sym, ap, ◌∙◌, subst, subst₂}
use Rattle.std.specs.Prelude.{Option, Some, None}
use Rattle.std.proofs.lemmas.List.Sorted.{list_any-IsPermutation}
use Rattle.sm_shapes.specs.Values.{Val}
use Rattle.sm_shapes.specs.TableData.{TableData, members_at}
use Rattle.sm_shapes.specs.InOrder.{Shaped}
use Rattle.sm_shapes.specs.Places.{Place, member_place, members_of_place}
use Rattle.sm_shapes.specs.declared.fault.FaultKind.TheVariants.{UnionCount}
use Rattle.sm_codec.specs.Convention.{IsConvention}
use Rattle.sm_codec.specs.Codec.{Codec, InTable}
use Rattle.sm_codec.specs.FaultLists.{FaultAt, first_fault}
use Rattle.sm_codec.specs.Readings.{Child, ByMember, one_here, under_names, repeats, all_standing, union_faults, standing_fields}
use Rattle.sm_codec.specs.Readings.{union_reading_of, union_reading}
use Rattle.sm_codec.specs.Walk.{member_at}
use Rattle.sm_codec.specs.Decoding.{MemberFrame, union_frame}
use Rattle.sm_codec.specs.Kept.{has_one, closed_members, closed_union_faults, HoldsMembers, HoldsPairs, IsOutcome}
use Rattle.sm_codec.specs.steps.Arrivals.{Arrival, IsArrival}
use Rattle.sm_codec.specs.steps.MemberSteps.{is_seen}
use Rattle.sm_codec.specs.steps.UnionSteps.{repeat_fault, ChoosesFirst, ChoosesAgain, ChoosesMember, union_end}
use Rattle.sm_codec.proofs.MemberArrives.{Arrives}
use Rattle.sm_codec.proofs.MemberNamed.{arrives_at, unknown_members, unknown, seen_stands, stands_seen, nothing_yet, something, never_both}
use Rattle.sm_codec.proofs.UnionArrives.{AreSound, repeats_agree, standing_agree}
use Rattle.sm_codec.proofs.UnionHeld.{AreChosen, first_chosen, again_chosen, says_of}

-- a frame that takes the tree
module _ (t : TableData) (before : List ℕ) (k : ℕ) (behind : List ℕ) (s r : ByMember) (child : Child) where
  abbrev ms : List ℕ
  ms = before ++ k ∷ behind

  chooses_by : (x : Arrival) (f g : MemberFrame) (b : Bool) → is_seen k f.seen ≡ b → members_at t f.shape ≡ ms
      → Arrives t before k behind s r child → IsArrival child.null (child.reading (member_place k)) x → ((j : ℕ) → AreSound j (s j))
      → MatchBool b (ChoosesAgain t k f g) (ChoosesFirst t k x f g) → AreChosen t ms s f.seen f.fault f.fields
      → AreChosen t ms r g.seen g.fault g.fields
  chooses_by x f g true seen e a is sound takes h =
      let stands = seen_stands s k ms (sym (list_any-IsPermutation (λ j. nat_eq j k) f.seen (closed_members s ms) h.0) ∙ seen) in
      let one = something (s k) stands in
      let held = again_chosen t before k behind s r child f.seen one.0 one.1 f.fault f.fields a one.2 sound h in
      let fault : g.fault ≡ repeat_fault t ms k f.fault = takes.2 ∙ ap (λ ks. repeat_fault t ks k f.fault) e in
      subst (λ ks. AreChosen t ms r ks g.fault g.fields) (sym takes.0)
      (subst₂ (λ o fs. AreChosen t ms r f.seen o fs) (sym fault) (sym takes.1) held)
  chooses_by x f g false seen e a is sound takes h =
      let absent : has_one (s k) ≡ false =
      no_one (has_one (s k)) refl (sym (list_any-IsPermutation (λ j. nat_eq j k) f.seen (closed_members s ms) h.0) ∙ seen) in
      let held = first_chosen t before k behind s r child f.seen g.seen x f.fault f.fields a
      (nothing_yet (s k) absent) is sound takes.0 h in
      subst₂ (λ o fs. AreChosen t ms r g.seen o fs) (sym takes.2) (sym takes.1) held
    where
      no_one : (d : Bool) → has_one (s k) ≡ d → is_seen k (closed_members s ms) ≡ false → d ≡ false
      no_one true one none = absurd (never_both (is_seen k (closed_members s ms)) (stands_seen s before k behind one) none)
      no_one false one none = refl

chosen_of : (t : TableData) (p : Place) (s : ByMember) (pending : Option ℕ) (f : MemberFrame)
    → HoldsMembers t p s pending (closed_union_faults t s (members_of_place t p)) f
    → AreChosen t (members_of_place t p) s f.seen f.fault f.fields
chosen_of t p s pending f h = (h.seen, h.fault, h.fields)

-- so a union's frame holds the pairs with this one
pub choice_held : (c : Codec) (p : Place) (ps : List (List ℕ × Child)) (name : List ℕ) (child : Child) (k : ℕ) (x : Arrival)
    (f g : MemberFrame)
    → IsConvention c.convention → Shaped c.table → InTable c.table p → member_at c p name ≡ Some k
    → IsArrival child.null (child.reading (member_place k)) x → ((j : ℕ) → AreSound j (under_names c p ps j))
    → ChoosesMember c.table k x f g
    → HoldsPairs c p ps (Some name) (union_frame f) → HoldsPairs c p (ps ++ (name, child) ∷ []) None (union_frame g)
choice_held c p ps name child k x f g laws shaped inside at is sound takes h =
    let t = c.table in
    let s = under_names c p ps in
    let r = under_names c p (ps ++ (name, child) ∷ []) in
    let found = arrives_at c p ps name child k laws shaped inside at in
    let old = subst (λ ks. AreChosen t ks s f.seen f.fault f.fields) found.2 (chosen_of t p s (member_at c p name) f h.1) in
    let seen = ap (members_at t) h.1.shape ∙ found.2 in
    let new = chooses_by t found.0 k found.1 s r child x f g (is_seen k f.seen) refl seen found.3 is sound takes.2 old in
    let back = subst (λ ks. AreChosen t ks r g.seen g.fault g.fields) (sym found.2) new in
    (h.0, record { shape = takes.0 ∙ h.1.shape; seen = back.0; current = takes.1; fault = back.1; fields = back.2 })

-- a name that finds no member leaves the frame as it is
pub other_held : (c : Codec) (p : Place) (ps : List (List ℕ × Child)) (name : List ℕ) (child : Child) (f : MemberFrame)
    → member_at c p name ≡ None → HoldsPairs c p ps (Some name) (union_frame f)
    → HoldsPairs c p (ps ++ (name, child) ∷ []) None (union_frame f)
other_held c p ps name child f at h =
    let t = c.table in
    let s = under_names c p ps in
    let r = under_names c p (ps ++ (name, child) ∷ []) in
    let ks = members_of_place t p in
    let same = unknown c p name child ps ks at in
    let faults : closed_union_faults t r ks ≡ closed_union_faults t s ks =
    ap (λ fs. union_faults t [] fs (all_standing r ks)) (repeats_agree t r s ks same)
    ∙ ap (union_faults t [] (repeats t s ks)) (standing_agree t r s ks same) in
    (h.0, unknown_members c p ps name child f (closed_union_faults t s ks) (closed_union_faults t r ks) faults at h.1)

-- where it ends
open_or_not : (t : TableData) (rs : List FaultAt) (ms : List (ℕ × Child)) (f : FaultAt) (fs : List FaultAt)
    → union_faults t [] rs ms ≡ f ∷ fs
    → union_faults t (one_here UnionCount) rs ms ≡ f ∷ fs
open_or_not t (g ∷ gs) ms f fs h = h
open_or_not t [] [] f fs h = absurd cc
open_or_not t [] (m ∷ []) f fs h = h
open_or_not t [] (m ∷ n ∷ ms) f fs h = h

none_or_one : (t : TableData) (rs : List FaultAt) (ms : List (ℕ × Child)) → union_faults t [] rs ms ≡ []
    → union_reading_of (union_faults t (one_here UnionCount) rs ms) (standing_fields ms) ≡ union_reading_of [] (standing_fields ms)
none_or_one t (g ∷ gs) ms h = absurd cc
none_or_one t [] [] h = refl
none_or_one t [] (m ∷ []) h = ap (λ fs. union_reading_of fs (standing_fields (m ∷ []))) h
none_or_one t [] (m ∷ n ∷ ms) h = absurd cc

ends_clean : (fields : List (ℕ × Val)) → IsOutcome (union_reading_of [] fields) (union_end fields None)
ends_clean [] = (([], UnionCount), [], refl, refl)
ends_clean (f ∷ fs) = refl

union_by : (t : TableData) (s : ByMember) (ks seen : List ℕ) (fault : Option FaultAt) (fields : List (ℕ × Val)) (fs : List FaultAt)
    → closed_union_faults t s ks ≡ fs → AreChosen t ks s seen fault fields
    → IsOutcome (union_reading_of (union_faults t (one_here UnionCount) (repeats t s ks) (all_standing s ks))
    (standing_fields (all_standing s ks)))
    (union_end fields fault)
union_by t s ks seen fault fields [] e h =
    let values : fields ≡ standing_fields (all_standing s ks) = (says_of t s ks seen fault fields h).1 e in
    let none : fault ≡ None = h.1 ∙ ap first_fault e in
    subst₂ (λ r o. IsOutcome r o)
    (ap (λ xs. union_reading_of [] xs) values ∙ sym (none_or_one t (repeats t s ks) (all_standing s ks) e))
    (ap (union_end fields) (sym none)) (ends_clean fields)
union_by t s ks seen fault fields (f ∷ fs) e h =
    let some : fault ≡ Some f = h.1 ∙ ap first_fault e in
    let all = open_or_not t (repeats t s ks) (all_standing s ks) f fs e in
    subst₂ (λ r o. IsOutcome r o) (ap (λ xs. union_reading_of xs (standing_fields (all_standing s ks))) (sym all))
    (ap (union_end fields) (sym some))
    (faulty fields f fs (standing_fields (all_standing s ks)))
  where
    faulty : (xs : List (ℕ × Val)) (g : FaultAt) (gs : List FaultAt) (ys : List (ℕ × Val))
        → IsOutcome (union_reading_of (g ∷ gs) ys) (union_end xs (Some g))
    faulty [] g gs ys = (g, gs, refl, refl)
    faulty (x ∷ xs) g gs ys = (g, gs, refl, refl)

pub union_ends : (c : Codec) (p : Place) (ps : List (List ℕ × Child)) (f : MemberFrame) → HoldsPairs c p ps None (union_frame f)
    → IsOutcome (union_reading c p ps) (union_end f.fields f.fault)
union_ends c p ps f h =
    union_by c.table (under_names c p ps) (members_of_place c.table p) f.seen f.fault f.fields
    (closed_union_faults c.table (under_names c p ps) (members_of_place c.table p)) refl
    (chosen_of c.table p (under_names c p ps) None f h.1)
