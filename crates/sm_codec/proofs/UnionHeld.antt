-- So a union's frame that takes a member's tree holds what the closed members come to.
use Rattle.std.proofs.Common.{◌≡◌, inl, inr, ℕ, true, false, cond, List, [], ◌∷◌, ◌++◌, refl, sym, ap, ◌∙◌, subst, subst₂}
use Rattle.std.specs.Prelude.{Option, Some, None, Ok, Err}
use Rattle.std.specs.List.Sorted.{IsPermutation}
use Rattle.sm_tree.specs.declared.path.Step.TheVariants.{Member}
use Rattle.sm_shapes.specs.Values.{Val}
use Rattle.sm_shapes.specs.TableData.{TableData, name_at}
use Rattle.sm_shapes.specs.Places.{member_place}
use Rattle.sm_shapes.specs.declared.fault.FaultKind.TheVariants.{Repeated}
use Rattle.sm_codec.specs.FaultLists.{FaultAt, under, first_fault, faults_in}
use Rattle.sm_codec.specs.Readings.{Child, ByMember, present_reading, member_faults, member_fields, member_reading, so_far_absent}
use Rattle.sm_codec.specs.Readings.{repeated_faults, repeats, standing, all_standing, standing_faults, union_faults, standing_fields}
use Rattle.sm_codec.specs.Kept.{AreOf, AreKept, each_field, spelled_fields, closed_members, closed_faults, closed_union_faults}
use Rattle.sm_codec.specs.steps.Arrivals.{Arrival, null_comes, value_comes, fault_comes, IsArrival}
use Rattle.sm_codec.specs.steps.MemberSteps.{at_member, least_fault}
use Rattle.sm_codec.specs.steps.UnionSteps.{chosen, choice_fault, first_choice, choice_fields, repeat_fault}
use Rattle.sm_codec.proofs.MembersKept.{all_of, kept_of, kept_all, kept_from, of_grown}
use Rattle.sm_codec.proofs.MemberParts.{own_faults, least_of_all}
use Rattle.sm_codec.proofs.MemberArrives.{Arrives, faults_now, fields_now, fields_then, each_two, each_null, each_found, seen_first}
use Rattle.sm_codec.proofs.MemberArrives.{seen_again}
use Rattle.sm_codec.proofs.UnionArrives.{AreSound, StandSound, Says, repeats_two, standing_two, repeats_are, repeated_ones, only_more}
use Rattle.sm_codec.proofs.UnionArrives.{repeats_first, spelled_standing, stand_sound, repeats_agree, standing_agree, more_agree}
use Rattle.sm_codec.proofs.UnionArrives.{more_stands, IsPut, value_stands, chosen_some, repeat_first}

-- what a union's frame says of its closed members: those seen, the fault and the fields
abbrev pub AreChosen : TableData → List ℕ → ByMember → List ℕ → Option FaultAt → List (ℕ × Val) → Type 0
AreChosen t ms s seen fault fields =
    IsPermutation seen (closed_members s ms) × (fault ≡ first_fault (closed_union_faults t s ms))
    × AreKept (closed_union_faults t s ms) fields (spelled_fields s ms)

pub no_repeats : (t : TableData) (rs : List FaultAt) (ms : List (ℕ × Child)) → union_faults t [] rs ms ≡ [] → rs ≡ []
no_repeats t [] ms h = refl
no_repeats t (f ∷ fs) ms h = absurd cc

pub says_of : (t : TableData) (s : ByMember) (ks seen : List ℕ) (fault : Option FaultAt) (fields : List (ℕ × Val))
    → AreChosen t ks s seen fault fields
    → Says t (repeats t s ks) (all_standing s ks) fields fault
says_of t s ks seen fault fields h = (
  h.1,
  λ quiet. kept_all (closed_union_faults t s ks) fields (spelled_fields s ks) h.2 quiet
      ∙ spelled_standing t s ks (no_repeats t (repeats t s ks) (all_standing s ks) quiet),
)

kept_equal : (fs : List FaultAt) (kept all : List (ℕ × Val)) → kept ≡ all → AreKept fs kept all
kept_equal fs kept all e = kept_from fs kept all (subst (λ xs. AreOf kept xs) e (all_of kept)) (λ none. e)

some_fault : (fs : List FaultAt) (o : FaultAt) → first_fault fs ≡ Some o → fs ≡ [] → ⊥
some_fault [] o h e = cc
some_fault (f ∷ fs) o h e = cc

not_empty : (fs : List FaultAt) (f : FaultAt) (gs : List FaultAt) → (g : FaultAt) × (hs : List FaultAt) × (fs ++ f ∷ gs ≡ g ∷ hs)
not_empty [] f gs = (f, gs, refl)
not_empty (g ∷ fs) f gs = (g, fs ++ f ∷ gs, refl)

repeats_only : (t : TableData) (rs : List FaultAt) (ms : List (ℕ × Child)) (g : FaultAt) (hs : List FaultAt) → rs ≡ g ∷ hs
    → union_faults t [] rs ms ≡ g ∷ hs
repeats_only t rs ms g hs e = ap (λ fs. union_faults t [] fs ms) e

module _ (t : TableData) (before : List ℕ) (k : ℕ) (behind : List ℕ) (s r : ByMember) (child : Child) where
  abbrev ms : List ℕ
  ms = before ++ k ∷ behind

  abbrev low : List (ℕ × Child)
  low = all_standing s before

  abbrev high : List (ℕ × Child)
  high = all_standing s behind

  abbrev Arrived : Type 0
  Arrived = Arrives t before k behind s r child

  one_now : Arrived → s k ≡ [] → r k ≡ child ∷ []
  one_now a none = a.here ∙ ap (λ cs. cs ++ child ∷ []) none

  -- for the first time: no more is repeated, and it stands if it isn't null
  same_repeats : Arrived → s k ≡ [] → repeats t r ms ≡ repeats t s ms
  same_repeats a none =
      repeats_two t r before (k ∷ behind)
      ∙ ap (λ cs. repeats t r before ++ (under (Member (name_at t k)) (repeated_faults cs) ++ repeats t r behind)) (one_now a none)
      ∙ ap (λ fs. fs ++ repeats t r behind) (repeats_agree t r s before a.front)
      ∙ ap (λ fs. repeats t s before ++ fs) (repeats_agree t r s behind a.back)
      ∙ ap (λ cs. repeats t s before ++ (under (Member (name_at t k)) (repeated_faults cs) ++ repeats t s behind)) (sym none)
      ∙ sym (repeats_two t s before (k ∷ behind))

  standing_then : s k ≡ [] → all_standing s ms ≡ low ++ high
  standing_then none = standing_two t s before (k ∷ behind) ∙ ap (λ cs. low ++ (standing k cs ++ high)) none

  standing_now : Arrived → s k ≡ [] → all_standing r ms ≡ low ++ (cond child.null [] ((k, child) ∷ []) ++ high)
  standing_now a none =
      standing_two t r before (k ∷ behind)
      ∙ ap (λ cs. all_standing r before ++ (standing k cs ++ all_standing r behind)) (one_now a none)
      ∙ ap (λ xs. xs ++ (cond child.null [] ((k, child) ∷ []) ++ all_standing r behind)) (standing_agree t r s before a.front)
      ∙ ap (λ xs. low ++ (cond child.null [] ((k, child) ∷ []) ++ xs)) (standing_agree t r s behind a.back)

  stands_now : Arrived → s k ≡ [] → child.null ≡ false → all_standing r ms ≡ low ++ (k, child) ∷ high
  stands_now a none real = standing_now a none ∙ ap (λ b. low ++ (cond b [] ((k, child) ∷ []) ++ high)) real

  all_now : Arrived → s k ≡ [] → child.null ≡ false
      → closed_union_faults t r ms ≡ union_faults t [] (repeats t s ms) (low ++ (k, child) ∷ high)
  all_now a none real =
      ap (λ fs. union_faults t [] fs (all_standing r ms)) (same_repeats a none)
      ∙ ap (union_faults t [] (repeats t s ms)) (stands_now a none real)

  same_fields : Arrived → s k ≡ [] → each_field k (r k) ≡ [] → spelled_fields r ms ≡ spelled_fields s ms
  same_fields a none empty =
      fields_now t before k s r behind [] a.front a.back empty ∙ sym (fields_then t before k s r behind [] (ap (each_field k) none))

  null_chosen : (seen now : List ℕ) (fault : Option FaultAt) (fields : List (ℕ × Val)) → Arrived → s k ≡ [] → child.null ≡ true
      → IsPermutation (k ∷ seen) now → AreChosen t ms s seen fault fields → AreChosen t ms r now fault fields
  null_chosen seen now fault fields a none null put h =
      let one = one_now a none in
      let stand : all_standing r ms ≡ all_standing s ms =
      standing_now a none ∙ ap (λ b. low ++ (cond b [] ((k, child) ∷ []) ++ high)) null ∙ sym (standing_then none) in
      let faults : closed_union_faults t r ms ≡ closed_union_faults t s ms =
      ap (λ fs. union_faults t [] fs (all_standing r ms)) (same_repeats a none) ∙ ap (union_faults t [] (repeats t s ms)) stand in (
        seen_first t before k behind s r child seen now a.front a.back none one put h.0,
        h.1 ∙ ap first_fault (sym faults),
        subst₂ (λ fs xs. AreKept fs fields xs) (sym faults) (sym (same_fields a none (each_null t k child r one null))) h.2,
      )

  says_then : s k ≡ [] → (seen : List ℕ) (fault : Option FaultAt) (fields : List (ℕ × Val)) → AreChosen t ms s seen fault fields
      → Says t (repeats t s ms) (low ++ high) fields fault
  says_then none seen fault fields h =
      subst (λ xs. Says t (repeats t s ms) xs fields fault) (standing_then none) (says_of t s ms seen fault fields h)

  sound_then : s k ≡ [] → ((j : ℕ) → AreSound j (s j)) → StandSound (low ++ high)
  sound_then none sound = subst StandSound (standing_then none) (stand_sound t s ms sound)

  grown : (own : List (ℕ × Val)) (fs : List FaultAt) (fields : List (ℕ × Val)) → s k ≡ []
      → spelled_fields r ms ≡ spelled_fields s before ++ (own ++ spelled_fields s behind)
      → AreKept fs fields (spelled_fields s ms) → AreOf fields (spelled_fields r ms)
  grown own fs fields none is h =
      let was = subst (λ xs. AreOf fields xs) (fields_then t before k s r behind [] (ap (each_field k) none))
      (kept_of fs fields (spelled_fields s ms) h) in
      subst (λ xs. AreOf fields xs) (sym is) (of_grown fields (spelled_fields s before) [] own (spelled_fields s behind) was)

  value_chosen : (seen now : List ℕ) (v : Val) (fault : Option FaultAt) (fields : List (ℕ × Val)) → Arrived → s k ≡ []
      → (child.null ≡ false) × (child.reading (member_place k) ≡ Ok v) → ((j : ℕ) → AreSound j (s j)) → IsPermutation (k ∷ seen) now
      → AreChosen t ms s seen fault fields → AreChosen t ms r now (chosen None fields fault) (first_choice k v fields fault)
  value_chosen seen now v fault fields a none is sound put h =
      let one = one_now a none in
      let rs = repeats t s ms in
      let says = says_then none seen fault fields h in
      let stand = sound_then none sound in
      let alone : None ≡ first_fault (standing_faults t (k, child)) = ap (λ x. first_fault (under (Member (name_at t k)) (faults_in x)))
      (sym is.1) in
      let all = all_now a none is.0 in
      let first : chosen None fields fault ≡ first_fault (closed_union_faults t r ms) =
      more_stands t rs low (k, child) high fields fault None (repeats_first t s ms) stand alone says ∙ ap first_fault (sym all) in
      let each = each_found t k child r (Ok v) one is in
      let is_now = fields_now t before k s r behind ((k, v) ∷ []) a.front a.back each in (
        seen_first t before k behind s r child seen now a.front a.back none one put h.0,
        first,
        by_put (value_stands t rs low k v high fields fault (repeats_first t s ms) stand says) first is_now,
      )
    where
      by_put : IsPut t (repeats t s ms) low k v high fields fault → chosen None fields fault ≡ first_fault (closed_union_faults t r ms)
          → spelled_fields r ms ≡ spelled_fields s before ++ (((k, v) ∷ []) ++ spelled_fields s behind)
          → AreKept (closed_union_faults t r ms) (first_choice k v fields fault) (spelled_fields r ms)
      by_put (inl stays) first is_now =
          subst (λ fs. AreKept (closed_union_faults t r ms) fs (spelled_fields r ms)) (sym stays.0)
          (kept_from (closed_union_faults t r ms) fields (spelled_fields r ms)
          (grown ((k, v) ∷ []) (closed_union_faults t s ms) fields none is_now h.2)
          (λ empty. absurd (some_fault (closed_union_faults t r ms) stays.1 (sym first ∙ stays.2) empty)))
      by_put (inr only) first is_now =
          let repeats_none : repeats t r ms ≡ [] = same_repeats a none ∙ only.0 in
          let stands : all_standing r ms ≡ (k, child) ∷ [] =
          stands_now a none is.0 ∙ ap (λ xs. xs ++ (k, child) ∷ high) only.1 ∙ ap (λ xs. (k, child) ∷ xs) only.2 in
          let spelled : spelled_fields r ms ≡ (k, v) ∷ [] =
          spelled_standing t r ms repeats_none ∙ ap standing_fields stands ∙ ap (λ x. member_fields k (present_reading x) ++ []) is.1 in
          kept_equal (closed_union_faults t r ms) (first_choice k v fields fault) (spelled_fields r ms) (only.3 ∙ sym spelled)

  fault_chosen : (seen now : List ℕ) (w : FaultAt) (ws : List FaultAt) (fault : Option FaultAt) (fields : List (ℕ × Val)) → Arrived
      → s k ≡ []
      → (child.null ≡ false) × (child.reading (member_place k) ≡ Err (w ∷ ws)) → ((j : ℕ) → AreSound j (s j)) → IsPermutation (k ∷ seen) now
      → AreChosen t ms s seen fault fields → AreChosen t ms r now (chosen (Some (at_member t k w)) fields fault) fields
  fault_chosen seen now w ws fault fields a none is sound put h =
      let one = one_now a none in
      let rs = repeats t s ms in
      let alone : Some (at_member t k w) ≡ first_fault (standing_faults t (k, child)) =
      ap (λ x. first_fault (under (Member (name_at t k)) (faults_in x))) (sym is.1) in
      let first : chosen (Some (at_member t k w)) fields fault ≡ first_fault (closed_union_faults t r ms) =
      more_stands t rs low (k, child) high fields fault (Some (at_member t k w)) (repeats_first t s ms) (sound_then none sound) alone
      (says_then none seen fault fields h) ∙ ap first_fault (sym (all_now a none is.0)) in
      let each = each_found t k child r (Err (w ∷ ws)) one is in
      let kept = chosen_some t (at_member t k w) fields fault in
      let some = subst (λ xs. AreOf fields xs) (sym (same_fields a none each))
      (kept_of (closed_union_faults t s ms) fields (spelled_fields s ms) h.2) in (
        seen_first t before k behind s r child seen now a.front a.back none one put h.0,
        first,
        kept_from (closed_union_faults t r ms) fields (spelled_fields r ms) some
            (λ empty. absurd (some_fault (closed_union_faults t r ms) kept.0 (sym first ∙ kept.1) empty)),
      )

  -- a tree that comes for the first time
  pub first_chosen : (seen now : List ℕ) (x : Arrival) (fault : Option FaultAt) (fields : List (ℕ × Val)) → Arrived → s k ≡ []
      → IsArrival child.null (child.reading (member_place k)) x → ((j : ℕ) → AreSound j (s j)) → IsPermutation (k ∷ seen) now
      → AreChosen t ms s seen fault fields → AreChosen t ms r now (choice_fault t k x fields fault) (choice_fields k x fields fault)
  first_chosen seen now null_comes fault fields a none is sound put h = null_chosen seen now fault fields a none is put h
  first_chosen seen now (value_comes v) fault fields a none is sound put h = value_chosen seen now v fault fields a none is sound put h
  first_chosen seen now (fault_comes w) fault fields a none is sound put h =
      fault_chosen seen now w is.1.0 fault fields a none (is.0, is.1.1) sound put h

  -- and one that comes once more
  abbrev new : FaultAt
  new = at_member t k ([], Repeated)

  more_than_one : (b : Child) (bs : List Child)
      → under (Member (name_at t k)) (member_faults (member_reading so_far_absent k (only_more t r (b ∷ (bs ++ child ∷ []))))) ≡ new ∷ []
  more_than_one b [] = refl
  more_than_one b (d ∷ bs) = refl

  pub again_chosen : (seen : List ℕ) (b : Child) (bs : List Child) (fault : Option FaultAt) (fields : List (ℕ × Val)) → Arrived
      → s k ≡ b ∷ bs
      → ((j : ℕ) → AreSound j (s j)) → AreChosen t ms s seen fault fields → AreChosen t ms r seen (repeat_fault t ms k fault) fields
  again_chosen seen b bs fault fields a stood sound h =
      let two : r k ≡ b ∷ (bs ++ child ∷ []) = a.here ∙ ap (λ cs. cs ++ child ∷ []) stood in
      let own : own_faults t (repeated_ones t r) k ≡ new ∷ [] =
      ap (λ cs. under (Member (name_at t k)) (member_faults (member_reading so_far_absent k (only_more t r cs)))) two
      ∙ more_than_one b bs in
      let was = repeated_ones t s in
      let now_is : repeats t r ms ≡ closed_faults t was before ++ (new ∷ closed_faults t was behind) =
      repeats_are t r ms
      ∙ faults_now t before k was (repeated_ones t r) behind (new ∷ []) (more_agree t r s before a.front)
      (more_agree t r s behind a.back) own in
      let some_now = not_empty (closed_faults t was before) new (closed_faults t was behind) in
      let only = repeats_only t (repeats t r ms) (all_standing r ms) some_now.0 some_now.1 (now_is ∙ some_now.2) in
      let first : repeat_fault t ms k fault ≡ first_fault (closed_union_faults t r ms) =
      repeat_first t k ms (repeats t s ms) (all_standing s ms) fields fault (repeats_first t s ms) (stand_sound t s ms sound)
      (says_of t s ms seen fault fields h)
      ∙ ap (λ fs. least_fault t ms k new (first_fault fs)) (repeats_are t s ms)
      ∙ sym (least_of_all t before k behind was new [] a.differ a.below a.above)
      ∙ ap first_fault some_now.2 ∙ sym (ap first_fault only) in
      let grown_is : each_field k (r k) ≡ each_field k (s k) ++ each_field k (child ∷ []) =
      ap (each_field k) a.here ∙ each_two k (s k) (child ∷ []) in
      let then_of = subst (λ xs. AreOf fields xs) (fields_then t before k s r behind (each_field k (s k)) refl)
      (kept_of (closed_union_faults t s ms) fields (spelled_fields s ms) h.2) in
      let more = of_grown fields (spelled_fields s before) (each_field k (s k)) (each_field k (child ∷ []))
      (spelled_fields s behind) then_of in
      let is_now = fields_now t before k s r behind (each_field k (s k) ++ each_field k (child ∷ [])) a.front a.back grown_is in
      let some : AreOf fields (spelled_fields r ms) = subst (λ xs. AreOf fields xs) (sym is_now) more in (
        seen_again t before k behind s r child seen b bs (bs ++ child ∷ []) a.front a.back stood two h.0,
        first,
        kept_from (closed_union_faults t r ms) fields (spelled_fields r ms) some
            (λ empty. absurd (some_fault (closed_union_faults t r ms) some_now.0 (ap first_fault only) empty)),
      )
