-- Mixins each once: what they come to, one after the other, is what they come to with repeats.
use Rattle.std.proofs.Common.{◌≡◌, ◌⊎◌, inl, inr, ℕ, Bool, true, false, cond, List, [], ◌∷◌, ◌++◌, Option, Some, None, refl, sym, ap}
use Rattle.std.proofs.Common.{subst, ◌∙◌, append_assoc, append-nil, bytes_eq, reverse}
use Rattle.std.specs.Prelude.{◌==◌, ◌||◌, not, slice_get}
use Rattle.std.specs.BTreeSet as sorted
use Rattle.std.specs.BTreeSet.{BTreeSet}
use Rattle.std.specs.Cmp.{unsigned_tied}
use Rattle.std.specs.FinMap.Entries.{find}
use Rattle.std.specs.List.{flat_map}
use Rattle.std.specs.Option.{option_or}
use Rattle.std.specs.Ordering.{nat_cmp}
use Rattle.std.proofs.lemmas.Bool.{eqb-true, true≢false}
use Rattle.std.proofs.lemmas.Grind.{flat_map-append}
use Rattle.std.proofs.lemmas.List.{reverse-append, reverse-reverse}
use Rattle.std.proofs.lemmas.Slice.Eq.{bytes_eq-Decides}
use Rattle.sm_model.specs.Graphs.{text_cmp}
use Rattle.sm_merge.specs.Meaning.{Defined}
use Rattle.sm_merge.specs.steps.EffectiveTables.{traits_of_member}
use Rattle.sm_merge.specs.steps.Filling.{AreFirstRows, AreTraitsFrom, FoldedRows, copied_traits, folded_rows, given_rows, kept_of}
use Rattle.sm_merge.specs.steps.Filling.{last_first, member_lists, member_rows, shape_rows}
use Rattle.sm_merge.specs.steps.Firsts.{NamesAndTargets, firsts, is_name_of, unseen}
use Rattle.sm_merge.specs.steps.MixedIn.{AreBelow}
use Rattle.sm_merge.specs.steps.MixinsOnce.{has_number, mixins_once, unseen_mixins}
use Rattle.sm_merge.specs.steps.Tables.{named_view, traits_found}
use Rattle.sm_merge.specs.declared.effective.NamedFolded.{NamedFolded}
use Rattle.sm_merge.specs.declared.effective.ShapeTraits.{ShapeTraits}
use Rattle.sm_merge.specs.declared.mixins.Contributing.{Contributing}
use Rattle.sm_merge.specs.declared.table.PlaceRow.{PlaceRow}
use Rattle.sm_merge.proofs.Amongs.{Among, among_back, among_either, among_front}
use Rattle.sm_merge.proofs.FirstNames.{seen_before, unseen_more}
use Rattle.sm_merge.proofs.FoundRows.{find_joined}
use Rattle.sm_merge.proofs.MembersMixed.{all_unseen, unseen_joined}
use Rattle.sm_merge.proofs.MixedMade.{below_more}
use Rattle.sm_merge.proofs.NamesKnown.{or_other, or_true, seen_by}

-- what was seen, with one number more
abbrev and_seen : (ℕ → Bool) → ℕ → ℕ → Bool
and_seen seen m n = seen n || (m == n)

either_seen : (seen : ℕ → Bool) (m n : ℕ) → and_seen seen m n ≡ true → (seen n ≡ true) ⊎ (m ≡ n)
either_seen seen m n h = by (seen n) refl h
  where
    by : (b : Bool) → seen n ≡ b → (b || (m == n)) ≡ true → (seen n ≡ true) ⊎ (m ≡ n)
    by true is h = inl is
    by false is h = inr (eqb-true m n h)

pub seen_number : (seen : ℕ → Bool) (m : ℕ) → seen m ≡ true → (n : ℕ) → seen n ≡ (seen n || (m == n))
seen_number seen m is n = seen_by (λ i j. i == j) eqb-true seen m is n

-- a set of numbers with one more
pub number_more : (old new : BTreeSet ℕ) (m : ℕ) → sorted.UpdatesBy nat_cmp (λ k. nat_cmp m k) old new true → (n : ℕ)
    → has_number new n ≡ (has_number old n || (m == n))
number_more old new m u n =
    u.0 n ∙ ap (λ b. cond b true (has_number old n)) (unsigned_tied m n) ∙ or_other (m == n) (has_number old n)

-- one mixin, and then the rest
one_mixin : (seen now : ℕ → Bool) (c : Contributing) (cs : List Contributing) → ((n : ℕ) → now n ≡ and_seen seen c.number n)
    → unseen_mixins seen (c ∷ []) ++ unseen_mixins now cs ≡ unseen_mixins seen (c ∷ cs)
one_mixin seen now c cs h = by (seen c.number) refl
  where
    by : (b : Bool) → seen c.number ≡ b
        → cond b [] (c ∷ []) ++ unseen_mixins now cs
        ≡ cond b (unseen_mixins seen cs) (c ∷ unseen_mixins (and_seen seen c.number) cs)
    by true is = λ i. unseen_mixins (λ n. (h n ∙ sym (seen_number seen c.number is n)) i) cs
    by false is = λ i. c ∷ unseen_mixins (λ n. h n i) cs

pub mixins_step : (before after all : List Contributing) (seen now : ℕ → Bool) (c : Contributing) (cs : List Contributing)
    → after ≡ before ++ unseen_mixins seen (c ∷ []) → ((n : ℕ) → now n ≡ (seen n || (c.number == n)))
    → before ++ unseen_mixins seen (c ∷ cs) ≡ all → after ++ unseen_mixins now cs ≡ all
mixins_step before after all seen now c cs put h step =
    ap (λ l. l ++ unseen_mixins now cs) put ∙ append_assoc before (unseen_mixins seen (c ∷ [])) (unseen_mixins now cs)
    ∙ ap (λ l. before ++ l) (one_mixin seen now c cs h) ∙ step

pub none_put : (before : List Contributing) (seen : ℕ → Bool) (c : Contributing) → seen c.number ≡ true
    → before ≡ before ++ unseen_mixins seen (c ∷ [])
none_put before seen c is = sym (append-nil before) ∙ sym (ap (λ b. before ++ cond b [] (c ∷ [])) is)

pub mixins_begun : (seen : ℕ → Bool) → ((n : ℕ) → seen n ≡ false) → (cs : List Contributing) → unseen_mixins seen cs ≡ mixins_once cs
mixins_begun seen none cs = λ i. unseen_mixins (λ n. none n i) cs

-- their numbers are numbers of the list
module _ (k : ℕ) where
  below_unseen : (seen : ℕ → Bool) (cs : List Contributing) → AreBelow k cs → AreBelow k (unseen_mixins seen cs)
  below_unseen seen [] h = h
  below_unseen seen (c ∷ cs) h = by (seen c.number) (below_unseen seen cs h.1) (below_unseen (and_seen seen c.number) cs h.1)
    where
      by : (b : Bool) → AreBelow k (unseen_mixins seen cs) → AreBelow k (unseen_mixins (and_seen seen c.number) cs)
          → AreBelow k (cond b (unseen_mixins seen cs) (c ∷ unseen_mixins (and_seen seen c.number) cs))
      by true old new = old
      by false old new = (h.0, new)

  pub below_once : (cs : List Contributing) → AreBelow k cs → AreBelow k (mixins_once cs)
  below_once cs h = below_unseen (λ n. false) cs h

  below_turned : (cs : List Contributing) → AreBelow k cs → AreBelow k (reverse cs)
  below_turned [] h = tt
  below_turned (c ∷ cs) h =
      subst (AreBelow k) (sym (reverse-append (c ∷ []) cs)) (below_more k (reverse cs) c (below_turned cs h.1) h.0)

  pub below_last : (cs : List Contributing) → AreBelow k cs → AreBelow k (reverse (mixins_once (reverse cs)))
  below_last cs h = below_turned (mixins_once (reverse cs)) (below_once (reverse cs) (below_turned cs h))

-- members of names that were seen are none that are new
nothing_new : (had : Defined) (xs ys : NamesAndTargets) → ((id : List ℕ) → is_name_of id xs ≡ true → had id ≡ true)
    → unseen had (firsts (xs ++ ys)) ≡ unseen had (firsts ys)
nothing_new had [] ys h = refl
nothing_new had (x ∷ xs) ys h =
    unseen_more had had x (xs ++ ys) (seen_before had x.0 is)
    ∙ ap (λ b. cond (not b) (x ∷ []) [] ++ unseen had (firsts (xs ++ ys))) is
    ∙ nothing_new had xs ys (λ id there. h id (ap (λ b. bytes_eq x.0 id || b) there ∙ or_true (bytes_eq x.0 id)))
  where
    is : had x.0 ≡ true
    is = h x.0 (ap (λ b. b || is_name_of x.0 xs) ((bytes_eq-Decides x.0 x.0).1 refl))

module _ (g : ℕ → NamesAndTargets) (own : NamesAndTargets) where
  abbrev flat : List Contributing → NamesAndTargets
  flat cs = flat_map (λ c. g c.number) cs

  abbrev AllHad : Defined → (ℕ → Bool) → Type 0
  AllHad had seen = (n : ℕ) → seen n ≡ true → (id : List ℕ) → is_name_of id (g n) ≡ true → had id ≡ true

  firsts_kept : (had : Defined) (seen : ℕ → Bool) (cs : List Contributing) → AllHad had seen
      → unseen had (firsts (flat (unseen_mixins seen cs) ++ own)) ≡ unseen had (firsts (flat cs ++ own))
  firsts_kept had seen [] h = refl
  firsts_kept had seen (c ∷ cs) h =
      by (seen c.number) refl (firsts_kept had seen cs h) (λ k. firsts_kept has (and_seen seen c.number) cs k)
    where
      has : Defined
      has id = had id || is_name_of id (g c.number)

      front : (xs : NamesAndTargets) → unseen had (firsts ((g c.number ++ xs) ++ own))
          ≡ unseen had (firsts (g c.number)) ++ unseen has (firsts (xs ++ own))
      front xs =
          ap (λ ps. unseen had (firsts ps)) (append_assoc (g c.number) xs own)
          ∙ unseen_joined had has (g c.number) (xs ++ own) (λ id. refl)

      now_had : AllHad has (and_seen seen c.number)
      now_had n is id named = elim (either_seen seen c.number n is) [
        | inl old ↦ ap (λ b. b || is_name_of id (g c.number)) (h n old id named)
        | inr same ↦
            ap (λ b. had id || b) (subst (λ m. is_name_of id (g m) ≡ true) (sym same) named) ∙ or_true (had id)
      ]

      by : (b : Bool) → seen c.number ≡ b
          → unseen had (firsts (flat (unseen_mixins seen cs) ++ own)) ≡ unseen had (firsts (flat cs ++ own))
          → (AllHad has (and_seen seen c.number)
          → unseen has (firsts (flat (unseen_mixins (and_seen seen c.number) cs) ++ own)) ≡ unseen has (firsts (flat cs ++ own)))
          → unseen had (firsts (flat (cond b (unseen_mixins seen cs) (c ∷ unseen_mixins (and_seen seen c.number) cs)) ++ own))
          ≡ unseen had (firsts ((g c.number ++ flat cs) ++ own))
      by true is old new =
          old ∙ sym (ap (λ ps. unseen had (firsts ps)) (append_assoc (g c.number) (flat cs) own)
          ∙ nothing_new had (g c.number) (flat cs ++ own) (h c.number is))
      by false is old new =
          front (flat (unseen_mixins (and_seen seen c.number) cs))
          ∙ ap (λ ps. unseen had (firsts (g c.number)) ++ ps) (new now_had) ∙ sym (front (flat cs))

  pub same_firsts : (cs : List Contributing) → firsts (flat (mixins_once cs) ++ own) ≡ firsts (flat cs ++ own)
  same_firsts cs =
      sym (all_unseen (λ id. false) (λ id. refl) (firsts (flat (mixins_once cs) ++ own)))
      ∙ firsts_kept (λ id. false) (λ n. false) cs (λ n is. absurd (true≢false (sym is)))
      ∙ all_unseen (λ id. false) (λ id. refl) (firsts (flat cs ++ own))

-- what is found first
module _ {X : Type 0} (k : List ℕ) (g : ℕ → List (List ℕ × X)) where
  abbrev rows : List Contributing → List (List ℕ × X)
  rows cs = flat_map (λ c. g c.number) cs

  abbrev AreFound : (ℕ → Bool) → List Contributing → Type 0
  AreFound seen cs = find text_cmp k (rows (unseen_mixins seen cs)) ≡ find text_cmp k (rows cs)

  found_kept : (seen : ℕ → Bool) (cs : List Contributing) → ((n : ℕ) → seen n ≡ true → find text_cmp k (g n) ≡ None) → AreFound seen cs
  found_kept seen [] h = refl
  found_kept seen (c ∷ cs) h =
      by (seen c.number) refl (found_kept seen cs h) (λ now. found_kept (and_seen seen c.number) cs now)
    where
      by : (b : Bool) → seen c.number ≡ b → AreFound seen cs
          → (((n : ℕ) → and_seen seen c.number n ≡ true → find text_cmp k (g n) ≡ None) → AreFound (and_seen seen c.number) cs)
          → find text_cmp k (rows (cond b (unseen_mixins seen cs) (c ∷ unseen_mixins (and_seen seen c.number) cs)))
          ≡ find text_cmp k (g c.number ++ rows cs)
      by true is old new =
          old ∙ sym (find_joined k (g c.number) (rows cs) ∙ ap (λ o. option_or o (find text_cmp k (rows cs))) (h c.number is))
      by false is old new =
          find_joined k (g c.number) (rows (unseen_mixins (and_seen seen c.number) cs)) ∙ here (find text_cmp k (g c.number)) refl
          ∙ sym (find_joined k (g c.number) (rows cs))
        where
          here : (o : Option X) → find text_cmp k (g c.number) ≡ o
              → option_or o (find text_cmp k (rows (unseen_mixins (and_seen seen c.number) cs))) ≡ option_or o (find text_cmp k (rows cs))
          here (Some x) found = refl
          here None none = new (λ n is. elim (either_seen seen c.number n is) [
            | inl old ↦ h n old
            | inr same ↦ subst (λ m. find text_cmp k (g m) ≡ None) same none
          ])

  pub same_found : (cs : List Contributing) → find text_cmp k (rows (mixins_once cs)) ≡ find text_cmp k (rows cs)
  same_found cs = found_kept (λ n. false) cs (λ n is. absurd (true≢false (sym is)))

-- the last mixin first
turned_rows : (f : Contributing → FoldedRows) (cs : List Contributing) → last_first f cs ≡ flat_map f (reverse cs)
turned_rows f [] = refl
turned_rows f (c ∷ cs) =
    ap (λ rs. rs ++ f c) (turned_rows f cs)
    ∙ sym (ap (flat_map f) (reverse-append (c ∷ []) cs) ∙ flat_map-append f (reverse cs) (c ∷ [])
    ∙ ap (λ rs. flat_map f (reverse cs) ++ rs) (append-nil (f c)))

abbrev last_once : List Contributing → List Contributing
last_once cs = reverse (mixins_once (reverse cs))

same_last : (k : List ℕ) (g : ℕ → FoldedRows) (front : FoldedRows) (cs : List Contributing)
    → find text_cmp k (front ++ last_first (λ c. g c.number) (last_once cs)) ≡ find text_cmp k (front ++ last_first (λ c. g c.number) cs)
same_last k g front cs =
    find_joined k front (last_first (λ c. g c.number) (last_once cs))
    ∙ ap (option_or (find text_cmp k front)) (
    ap (find text_cmp k) (turned_rows (λ c. g c.number) (last_once cs)
    ∙ ap (flat_map (λ (c : Contributing). g c.number)) (reverse-reverse (mixins_once (reverse cs))))
    ∙ same_found k g (reverse cs) ∙ ap (find text_cmp k) (sym (turned_rows (λ c. g c.number) cs))
    )
    ∙ sym (find_joined k front (last_first (λ c. g c.number) cs))

other_rows : (rows others : FoldedRows) (ts : List NamedFolded)
    → ((k : List ℕ) → find text_cmp k rows ≡ find text_cmp k others) → AreFirstRows rows ts → AreFirstRows others ts
other_rows rows others ts same h = record { rise = h.rise; same = λ k. h.same k ∙ same k }

-- a shape has the traits that it has with repeats
pub last_traits : (traits : List PlaceRow) (id : List ℕ) (ms : NamesAndTargets) (cs : List Contributing) (all : List ShapeTraits)
    (t : ShapeTraits) → AreTraitsFrom traits id ms (last_once cs) all t → AreTraitsFrom traits id ms cs all t
last_traits traits id ms cs all t h = record {
  own = other_rows (shape_rows traits id all (last_once cs)) (shape_rows traits id all cs) t.own.items
      (λ k. same_last k (λ n. folded_rows (copied_traits (slice_get all n))) (named_view (traits_found id traits)) cs) h.own;
  copied = h.copied;
  rise = h.rise;
  members = λ name.
      other_rows (member_rows traits id ms all (last_once cs) name) (member_rows traits id ms all cs name)
      (traits_of_member name t.members.items)
      (λ k. same_last k (λ n. kept_of (member_lists (slice_get all n)) name) (given_rows traits id ms name) cs) (h.members name);
}

-- what stands among it
module _ {A : Type 0} (x : A) (g : ℕ → List A) where
  abbrev whole : List Contributing → List A
  whole cs = flat_map (λ c. g c.number) cs

  kept_among : (seen : ℕ → Bool) (cs : List Contributing) → Among x (whole (unseen_mixins seen cs)) → Among x (whole cs)
  kept_among seen [] h = h
  kept_among seen (c ∷ cs) h = by (seen c.number) (λ a. kept_among seen cs a) (λ a. kept_among (and_seen seen c.number) cs a) h
    where
      by : (b : Bool) → (Among x (whole (unseen_mixins seen cs)) → Among x (whole cs))
          → (Among x (whole (unseen_mixins (and_seen seen c.number) cs)) → Among x (whole cs))
          → Among x (whole (cond b (unseen_mixins seen cs) (c ∷ unseen_mixins (and_seen seen c.number) cs)))
          → Among x (g c.number ++ whole cs)
      by true old new h = among_back x (g c.number) (whole cs) (old h)
      by false old new h = elim (among_either x (g c.number) (whole (unseen_mixins (and_seen seen c.number) cs)) h) [
        | inl front ↦ among_front x (g c.number) (whole cs) front
        | inr back ↦ among_back x (g c.number) (whole cs) (new back)
      ]

  abbrev rest : (ℕ → Bool) → Contributing → List Contributing → List Contributing
  rest seen c cs = unseen_mixins (and_seen seen c.number) cs

  among_kept : (W : Type 0) (seen : ℕ → Bool) (cs : List Contributing) → ((n : ℕ) → seen n ≡ true → Among x (g n) → W)
      → (Among x (whole (unseen_mixins seen cs)) → W) → Among x (whole cs) → W
  among_kept W seen [] had into h = into h
  among_kept W seen (c ∷ cs) had into h =
      by (seen c.number) refl (λ i a. among_kept W seen cs had i a) (λ p i a. among_kept W (and_seen seen c.number) cs p i a) into
      (among_either x (g c.number) (whole cs) h)
    where
      by : (b : Bool) → seen c.number ≡ b → ((Among x (whole (unseen_mixins seen cs)) → W) → Among x (whole cs) → W)
          → (((n : ℕ) → and_seen seen c.number n ≡ true → Among x (g n) → W) → (Among x (whole (rest seen c cs)) → W)
          → Among x (whole cs) → W)
          → (Among x (whole (cond b (unseen_mixins seen cs) (c ∷ rest seen c cs))) → W) → Among x (g c.number) ⊎ Among x (whole cs) → W
      by true is old new into (inl here) = had c.number is here
      by true is old new into (inr later) = old into later
      by false is old new into (inl here) = into (among_front x (g c.number) (whole (rest seen c cs)) here)
      by false is old new into (inr later) =
          new
          (λ n both a. elim (either_seen seen c.number n both) [
            | inl before ↦ had n before a
            | inr same ↦ into (among_front x (g c.number) (whole (rest seen c cs)) (subst (λ m. Among x (g m)) (sym same) a))
          ])
          (λ a. into (among_back x (g c.number) (whole (rest seen c cs)) a))
          later

  among_once : (cs : List Contributing) → Among x (whole cs) → Among x (whole (mixins_once cs))
  among_once cs h = among_kept (Among x (whole (mixins_once cs))) (λ n. false) cs (λ n is a. absurd (true≢false (sym is))) (λ a. a) h

  pub with_repeats : (own : List A) (cs : List Contributing) → Among x (whole (mixins_once cs) ++ own) → Among x (whole cs ++ own)
  with_repeats own cs h = elim (among_either x (whole (mixins_once cs)) own h) [
    | inl front ↦ among_front x (whole cs) own (kept_among (λ n. false) cs front)
    | inr back ↦ among_back x (whole cs) own back
  ]

  pub without_repeats : (own : List A) (cs : List Contributing) → Among x (whole cs ++ own) → Among x (whole (mixins_once cs) ++ own)
  without_repeats own cs h = elim (among_either x (whole cs) own h) [
    | inl front ↦ among_front x (whole (mixins_once cs)) own (among_once cs front)
    | inr back ↦ among_back x (whole (mixins_once cs)) own back
  ]
