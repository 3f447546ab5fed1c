-- A tree that is closed in a union: what its frame keeps is still what the closed members come to.
use Rattle.std.proofs.Common.{◌≡◌, ◌⊎◌, inl, inr, ℕ, Bool, true, false, cond, List, [], ◌∷◌, ◌++◌, append-nil, refl, sym, ap, ◌∙◌, subst}
use Rattle.std.proofs.Common.{subst₂}
use Rattle.std.specs.Prelude.{Option, Some, None, Ok, Err}
use Rattle.sm_tree.specs.declared.path.Step.TheVariants.{Member}
use Rattle.sm_shapes.specs.Values.{Val}
use Rattle.sm_shapes.specs.TableData.{TableData, name_at}
use Rattle.sm_shapes.specs.Places.{member_place}
use Rattle.sm_shapes.specs.declared.fault.FaultKind.TheVariants.{Repeated, UnionCount}
use Rattle.sm_codec.specs.FaultLists.{FaultAt, Reading, under, first_fault, faults_in}
use Rattle.sm_codec.specs.Readings.{Child, ByMember, one_here, present_reading, member_reading, member_faults, member_fields}
use Rattle.sm_codec.specs.Readings.{so_far_absent, repeated_faults, repeats, standing, all_standing, standing_faults, union_faults}
use Rattle.sm_codec.specs.Readings.{standing_fields}
use Rattle.sm_codec.specs.Kept.{each_field, spelled_fields, closed_faults}
use Rattle.sm_codec.specs.steps.MemberSteps.{at_member, least_fault}
use Rattle.sm_codec.specs.steps.UnionSteps.{repeats_here, is_repeat, chosen, first_choice, repeat_fault}
use Rattle.sm_codec.proofs.NoFaults.{none_first, none_behind}
use Rattle.sm_codec.proofs.Joined.{Agree, joined_two, joined_agree}
use Rattle.sm_codec.proofs.MemberParts.{own_faults}

-- a child comes to a value or to faults, and never to the one that a name is repeated
abbrev pub IsSound : ℕ → Child → Type 0
IsSound k child =
    (child.reading (member_place k) ≡ Err [] → ⊥)
    × ((f : FaultAt) (fs : List FaultAt) → child.reading (member_place k) ≡ Err (f ∷ fs) → repeats_here f ≡ false)

abbrev pub AreSound : ℕ → List Child → Type 0
AreSound k [] = Unit {0}
AreSound k (child ∷ children) = IsSound k child × AreSound k children

abbrev pub StandSound : List (ℕ × Child) → Type 0
StandSound [] = Unit {0}
StandSound (m ∷ ms) = IsSound m.0 m.1 × StandSound ms

module _ (t : TableData) (s : ByMember) where
  pub repeats_two : (ks js : List ℕ) → repeats t s (ks ++ js) ≡ repeats t s ks ++ repeats t s js
  repeats_two ks js =
      joined_two (λ k. under (Member (name_at t k)) (repeated_faults (s k))) (repeats t s) (refl, λ k ms. refl) ks js

  pub standing_two : (ks js : List ℕ) → all_standing s (ks ++ js) ≡ all_standing s ks ++ all_standing s js
  standing_two ks js = joined_two (λ k. standing k (s k)) (all_standing s) (refl, λ k ms. refl) ks js

  -- the repeats are the faults of a structure of the members that stand more than once
  abbrev pub only_more : List Child → List Child
  only_more [] = []
  only_more (child ∷ []) = []
  only_more (child ∷ more ∷ children) = child ∷ more ∷ children

  abbrev pub repeated_ones : ByMember
  repeated_ones k = only_more (s k)

  one_repeats : (k : ℕ) (children : List Child)
      → under (Member (name_at t k)) (repeated_faults children)
      ≡ under (Member (name_at t k)) (member_faults (member_reading so_far_absent k (only_more children)))
  one_repeats k [] = refl
  one_repeats k (child ∷ []) = refl
  one_repeats k (child ∷ more ∷ children) = refl

  pub repeats_are : (ks : List ℕ) → repeats t s ks ≡ closed_faults t repeated_ones ks
  repeats_are [] = refl
  repeats_are (k ∷ ks) =
      ap (λ fs. fs ++ repeats t s ks) (one_repeats k (s k)) ∙ ap (λ fs. own_faults t repeated_ones k ++ fs) (repeats_are ks)

  -- the first of them is one that is known as such
  one_first : (k : ℕ) (children : List Child) (more : List FaultAt) (f : FaultAt) (fs : List FaultAt)
      → under (Member (name_at t k)) (repeated_faults children) ++ more ≡ f ∷ fs → (more ≡ f ∷ fs → is_repeat f ≡ true) → is_repeat f ≡ true
  one_first k [] more f fs h rest = rest h
  one_first k (child ∷ []) more f fs h rest = rest h
  one_first k (child ∷ another ∷ children) more f fs h rest =
      let same : (Member (name_at t k) ∷ [], Repeated) ≡ f = cc in sym (ap is_repeat same)

  pub repeats_first : (ks : List ℕ) (f : FaultAt) (fs : List FaultAt) → repeats t s ks ≡ f ∷ fs → is_repeat f ≡ true
  repeats_first [] f fs h = absurd cc
  repeats_first (k ∷ ks) f fs h = one_first k (s k) (repeats t s ks) f fs h (λ e. repeats_first ks f fs e)

  -- without one the values are those of the members that stand
  one_spelled : (k : ℕ) (children : List Child) → under (Member (name_at t k)) (repeated_faults children) ≡ [] → (more : List (ℕ × Child))
      → each_field k children ++ standing_fields more ≡ standing_fields (standing k children ++ more)
  one_spelled k [] h more = refl
  one_spelled k (child ∷ []) h more = by_null child.null
    where
      own : List (ℕ × Val)
      own = member_fields k (present_reading (child.reading (member_place k)))

      by_null : (b : Bool) → (cond b [] own ++ []) ++ standing_fields more ≡ standing_fields (cond b [] ((k, child) ∷ []) ++ more)
      by_null true = refl
      by_null false = ap (λ fs. fs ++ standing_fields more) (append-nil own)
  one_spelled k (child ∷ another ∷ children) h more = absurd cc

  pub spelled_standing : (ks : List ℕ) → repeats t s ks ≡ [] → spelled_fields s ks ≡ standing_fields (all_standing s ks)
  spelled_standing [] h = refl
  spelled_standing (k ∷ ks) h =
      let own = under (Member (name_at t k)) (repeated_faults (s k)) in
      ap (λ fs. each_field k (s k) ++ fs) (spelled_standing ks (none_behind own (repeats t s ks) h))
      ∙ one_spelled k (s k) (none_first own (repeats t s ks) h) (all_standing s ks)

  one_sound : (k : ℕ) (children : List Child) (more : List (ℕ × Child)) → AreSound k children → StandSound more
      → StandSound (standing k children ++ more)
  one_sound k [] more is rest = rest
  one_sound k (child ∷ []) more is rest = by_null child.null
    where
      by_null : (b : Bool) → StandSound (cond b [] ((k, child) ∷ []) ++ more)
      by_null true = rest
      by_null false = (is.0, rest)
  one_sound k (child ∷ another ∷ children) more is rest = rest

  pub stand_sound : (ks : List ℕ) → ((k : ℕ) → AreSound k (s k)) → StandSound (all_standing s ks)
  stand_sound [] is = tt
  stand_sound (k ∷ ks) is = one_sound k (s k) (all_standing s ks) (is k) (stand_sound ks is)

module _ (t : TableData) (s r : ByMember) where
  pub repeats_agree : (ks : List ℕ) → Agree s r ks → repeats t s ks ≡ repeats t r ks
  repeats_agree ks h =
      joined_agree (λ k cs. under (Member (name_at t k)) (repeated_faults cs)) s r (repeats t s) (repeats t r) (refl, λ k ms. refl)
      (refl, λ k ms. refl) ks h

  pub standing_agree : (ks : List ℕ) → Agree s r ks → all_standing s ks ≡ all_standing r ks
  standing_agree ks h =
      joined_agree (λ k cs. standing k cs) s r (all_standing s) (all_standing r) (refl, λ k ms. refl) (refl, λ k ms. refl) ks h

  pub more_agree : (ks : List ℕ) → Agree s r ks → Agree (repeated_ones t s) (repeated_ones t r) ks
  more_agree [] h = tt
  more_agree (k ∷ ks) h = (ap (only_more t s) h.0, more_agree ks h.1)

-- one member at least stands already: its fault is known, or its value
abbrev IsTaken : List (ℕ × Val) → Option FaultAt → Type 0
IsTaken fields old =
    ((o : FaultAt) × (old ≡ Some o) × (is_repeat o ≡ false)) ⊎ ((f : ℕ × Val) × (fs : List (ℕ × Val)) × (old ≡ None) × (fields ≡ f ∷ fs))

taken_chosen : (alone : Option FaultAt) (fields : List (ℕ × Val)) (old : Option FaultAt) → IsTaken fields old
    → chosen alone fields old ≡ Some ([], UnionCount)
taken_chosen alone [] old (inl h) = ap (chosen alone []) h.1 ∙ ap (λ b. cond b (Some h.0) (Some ([], UnionCount))) h.2
taken_chosen alone (f ∷ fs) old (inl h) = ap (chosen alone (f ∷ fs)) h.1 ∙ ap (λ b. cond b (Some h.0) (Some ([], UnionCount))) h.2
taken_chosen alone fields old (inr h) = subst₂ (λ xs o. chosen alone xs o ≡ Some ([], UnionCount)) (sym h.3) (sym h.2) refl

taken_fields : (k : ℕ) (v : Val) (fields : List (ℕ × Val)) (old : Option FaultAt) → IsTaken fields old
    → first_choice k v fields old ≡ fields
taken_fields k v [] old (inl h) = ap (first_choice k v []) h.1
taken_fields k v (f ∷ fs) old (inl h) = ap (first_choice k v (f ∷ fs)) h.1
taken_fields k v fields old (inr h) = subst₂ (λ xs o. first_choice k v xs o ≡ xs) (sym h.3) (sym h.2) refl

-- what a union's frame says of its faults and values, by those that are repeated and those that stand
abbrev pub Says : TableData → List FaultAt → List (ℕ × Child) → List (ℕ × Val) → Option FaultAt → Type 0
Says t rs ms fields old =
    (old ≡ first_fault (union_faults t [] rs ms)) × (union_faults t [] rs ms ≡ [] → fields ≡ standing_fields ms)

module _ (t : TableData) where
  one_by : (m : ℕ × Child) (r : Reading) → m.1.reading (member_place m.0) ≡ r → IsSound m.0 m.1
      → (fields : List (ℕ × Val)) (old : Option FaultAt)
      → old ≡ first_fault (under (Member (name_at t m.0)) (faults_in r))
      → (under (Member (name_at t m.0)) (faults_in r) ≡ [] → fields ≡ member_fields m.0 (present_reading r) ++ []) → IsTaken fields old
  one_by m (Ok v) e is fields old h g = inr ((m.0, v), [], h, g refl)
  one_by m (Err []) e is fields old h g = absurd (is.0 e)
  one_by m (Err (f ∷ fs)) e is fields old h g = inl ((Member (name_at t m.0) ∷ f.0, f.1), h, is.1 f fs e)

  taken_one : (m : ℕ × Child) → IsSound m.0 m.1 → (fields : List (ℕ × Val)) (old : Option FaultAt) → Says t [] (m ∷ []) fields old
      → IsTaken fields old
  taken_one m is fields old h = one_by m (m.1.reading (member_place m.0)) refl is fields old h.0 h.1

  taken_some : (m : ℕ × Child) (ms : List (ℕ × Child)) → StandSound (m ∷ ms) → (fields : List (ℕ × Val)) (old : Option FaultAt)
      → Says t [] (m ∷ ms) fields old → IsTaken fields old
  taken_some m [] is fields old h = taken_one m is.0 fields old h
  taken_some m (n ∷ ms) is fields old h = inl (([], UnionCount), h.0, refl)

  -- the members that stand with one more among them: it is alone, or there are more
  abbrev Joined : List (ℕ × Child) → ℕ × Child → List (ℕ × Child) → Type 0
  Joined us m bs =
      ((us ≡ []) × (bs ≡ [])) ⊎ ((n : ℕ × Child) × (ms : List (ℕ × Child)) × (us ++ bs ≡ n ∷ ms)
      × (union_faults t [] [] (us ++ m ∷ bs) ≡ one_here UnionCount))

  joined : (us : List (ℕ × Child)) (m : ℕ × Child) (bs : List (ℕ × Child)) → Joined us m bs
  joined [] m [] = inl (refl, refl)
  joined [] m (b ∷ bs) = inr (b, bs, refl, refl)
  joined (a ∷ []) m bs = inr (a, bs, refl, refl)
  joined (a ∷ n ∷ us) m bs = inr (a, n ∷ (us ++ bs), refl, refl)

  -- the fault that a member is repeated stays
  repeat_stays : (alone : Option FaultAt) (fields : List (ℕ × Val)) (old : Option FaultAt) (f : FaultAt) → old ≡ Some f → is_repeat f ≡ true
      → chosen alone fields old ≡ Some f
  repeat_stays alone [] old f e h = ap (chosen alone []) e ∙ ap (λ b. cond b (Some f) (Some ([], UnionCount))) h
  repeat_stays alone (x ∷ xs) old f e h = ap (chosen alone (x ∷ xs)) e ∙ ap (λ b. cond b (Some f) (Some ([], UnionCount))) h

  fields_stay : (k : ℕ) (v : Val) (fields : List (ℕ × Val)) (old : Option FaultAt) (f : FaultAt) → old ≡ Some f
      → first_choice k v fields old ≡ fields
  fields_stay k v [] old f e = ap (first_choice k v []) e
  fields_stay k v (x ∷ xs) old f e = ap (first_choice k v (x ∷ xs)) e

  -- the fault where one more stands, and what the only one comes to
  pub more_stands : (rs : List FaultAt) (us : List (ℕ × Child)) (m : ℕ × Child) (bs : List (ℕ × Child)) (fields : List (ℕ × Val))
      (old : Option FaultAt)
      → (alone : Option FaultAt) → ((f : FaultAt) (fs : List FaultAt) → rs ≡ f ∷ fs → is_repeat f ≡ true) → StandSound (us ++ bs)
      → alone ≡ first_fault (standing_faults t m) → Says t rs (us ++ bs) fields old
      → chosen alone fields old ≡ first_fault (union_faults t [] rs (us ++ m ∷ bs))
  more_stands (f ∷ fs) us m bs fields old alone repeat sound is h = repeat_stays alone fields old f h.0 (repeat f fs refl)
  more_stands [] us m bs fields old alone repeat sound is h = by_rest (joined us m bs)
    where
      by_rest : Joined us m bs → chosen alone fields old ≡ first_fault (union_faults t [] [] (us ++ m ∷ bs))
      by_rest (inl none) =
          let both : us ++ bs ≡ [] = ap (λ xs. xs ++ bs) none.0 ∙ none.1 in
          let quiet : union_faults t [] [] (us ++ bs) ≡ [] = ap (union_faults t [] []) both in
          let no_fields : fields ≡ [] = h.1 quiet ∙ ap standing_fields both in
          let no_fault : old ≡ None = h.0 ∙ ap first_fault quiet in
          ap (λ xs. chosen alone xs old) no_fields ∙ ap (chosen alone []) no_fault ∙ is
          ∙ sym (ap (λ xs. first_fault (union_faults t [] [] (xs ++ m ∷ bs))) none.0
          ∙ ap (λ xs. first_fault (union_faults t [] [] (m ∷ xs))) none.1)
      by_rest (inr some) =
          let others = subst (λ ms. StandSound ms) some.2 sound in
          let says = subst (λ ms. Says t [] ms fields old) some.2 h in
          taken_chosen alone fields old (taken_some some.0 some.1 others fields old says) ∙ sym (ap first_fault some.3)

  -- its value is put where it is the only one, and else there is a fault
  abbrev pub IsPut : List FaultAt → List (ℕ × Child) → ℕ → Val → List (ℕ × Child) → List (ℕ × Val) → Option FaultAt → Type 0
  IsPut rs us k v bs fields old =
      ((first_choice k v fields old ≡ fields) × (o : FaultAt) × (chosen None fields old ≡ Some o))
      ⊎ ((rs ≡ []) × (us ≡ []) × (bs ≡ []) × (first_choice k v fields old ≡ (k, v) ∷ []))

  pub value_stands : (rs : List FaultAt) (us : List (ℕ × Child)) (k : ℕ) (v : Val) (bs : List (ℕ × Child)) (fields : List (ℕ × Val))
      → (old : Option FaultAt) → ((f : FaultAt) (fs : List FaultAt) → rs ≡ f ∷ fs → is_repeat f ≡ true) → StandSound (us ++ bs)
      → Says t rs (us ++ bs) fields old → IsPut rs us k v bs fields old
  value_stands (f ∷ fs) us k v bs fields old repeat sound h =
      inl (fields_stay k v fields old f h.0, f, repeat_stays None fields old f h.0 (repeat f fs refl))
  value_stands [] [] k v [] fields old repeat sound h =
      let no_fields : fields ≡ [] = h.1 refl in
      let no_fault : old ≡ None = h.0 in
      inr (refl, refl, refl, ap (λ xs. first_choice k v xs old) no_fields ∙ ap (first_choice k v []) no_fault)
  value_stands [] [] k v (b ∷ bs) fields old repeat sound h =
      let taken = taken_some b bs sound fields old h in
      inl (taken_fields k v fields old taken, ([], UnionCount), taken_chosen None fields old taken)
  value_stands [] (a ∷ us) k v bs fields old repeat sound h =
      let taken = taken_some a (us ++ bs) sound fields old h in
      inl (taken_fields k v fields old taken, ([], UnionCount), taken_chosen None fields old taken)

  -- a fault of it is kept, or another
  some_kept : (b : Bool) (x y : FaultAt) → (o : FaultAt) × (cond b (Some x) (Some y) ≡ Some o)
  some_kept true x y = (x, refl)
  some_kept false x y = (y, refl)

  pub chosen_some : (x : FaultAt) (fields : List (ℕ × Val)) (old : Option FaultAt) → (o : FaultAt) × (chosen (Some x) fields old ≡ Some o)
  chosen_some x [] None = (x, refl)
  chosen_some x (f ∷ fs) None = (([], UnionCount), refl)
  chosen_some x [] (Some old) = some_kept (is_repeat old) old ([], UnionCount)
  chosen_some x (f ∷ fs) (Some old) = some_kept (is_repeat old) old ([], UnionCount)

  -- where no member is repeated so far, a repeat takes the fault's place
  fresh_by : (k : ℕ) (ks : List ℕ) (fields : List (ℕ × Val)) (old : Option FaultAt) → IsTaken fields old
      → repeat_fault t ks k old ≡ Some (at_member t k ([], Repeated))
  fresh_by k ks fields old (inl h) =
      ap (repeat_fault t ks k) h.1
      ∙ ap (λ b. cond b (least_fault t ks k (at_member t k ([], Repeated)) (Some h.0)) (Some (at_member t k ([], Repeated)))) h.2
  fresh_by k ks fields old (inr h) = ap (repeat_fault t ks k) h.2

  pub fresh_repeat : (k : ℕ) (ks : List ℕ) (ms : List (ℕ × Child)) (fields : List (ℕ × Val)) (old : Option FaultAt) → StandSound ms
      → Says t [] ms fields old → repeat_fault t ks k old ≡ Some (at_member t k ([], Repeated))
  fresh_repeat k ks [] fields old sound h = ap (repeat_fault t ks k) h.0
  fresh_repeat k ks (m ∷ ms) fields old sound h = fresh_by k ks fields old (taken_some m ms sound fields old h)

  pub repeat_first : (k : ℕ) (ks : List ℕ) (rs : List FaultAt) (ms : List (ℕ × Child)) (fields : List (ℕ × Val)) (old : Option FaultAt)
      → ((f : FaultAt) (fs : List FaultAt) → rs ≡ f ∷ fs → is_repeat f ≡ true) → StandSound ms → Says t rs ms fields old
      → repeat_fault t ks k old ≡ least_fault t ks k (at_member t k ([], Repeated)) (first_fault rs)
  repeat_first k ks [] ms fields old repeat sound h = fresh_repeat k ks ms fields old sound h
  repeat_first k ks (f ∷ fs) ms fields old repeat sound h =
      let old_is : old ≡ Some f = h.0 in
      ap (repeat_fault t ks k) old_is
      ∙ ap (λ b. cond b (least_fault t ks k (at_member t k ([], Repeated)) (Some f)) (Some (at_member t k ([], Repeated))))
      (repeat f fs refl)
