-- Of prefixes in order those that begin with no earlier one: a text begins with one of them where it begins with any.
use Rattle.std.proofs.Common.{◌≡◌, ◌⊎◌, inl, inr, ℕ, zero, suc, ◌+◌, ◌<◌, ◌≤◌, Bool, true, false, cond, List, [], ◌∷◌, ◌++◌, get_or, length}
use Rattle.std.proofs.Common.{drop, eqb, IsPermutation, IsSortedBy, refl, sym, ap, ◌∙◌, subst, arith}
use Rattle.std.specs.Prelude.{◌↔◌}
use Rattle.std.specs.Cmp.{tied_itself}
use Rattle.std.specs.Cmp.Lexicographic.{nat_list_cmp_total}
use Rattle.std.specs.FinMap.{slice_cmp-IsAntisymmetric, nat_cmp-IsAntisymmetric}
use Rattle.std.specs.List.{Contains, HoldsAt, dedup, dedup_from, starts_with}
use Rattle.std.specs.List.Sorted.{IsNonDecreasingBy, IsPartitionPoint}
use Rattle.std.specs.Ordering.{is_eq, is_lt, nat_cmp, ordering_index, ordering_reverse, ordering_then}
use Rattle.std.specs.declared.cmp.Ordering.{Ordering}
use Rattle.std.specs.declared.cmp.Ordering.TheVariants.{Less, Equal, Greater}
use Rattle.std.proofs.lemmas.Bool.{cases_lt}
use Rattle.std.proofs.lemmas.Bool.Decides.{Decides-eqb}
use Rattle.std.proofs.lemmas.Cmp.{nat_cmp_total}
use Rattle.std.proofs.lemmas.List.{append-nil, append_assoc}
use Rattle.std.proofs.lemmas.List.Elements.{Contains-get_or}
use Rattle.std.proofs.lemmas.List.Kept.{Contains-from_dedup}
use Rattle.std.proofs.lemmas.List.Sorted.{Contains-permutation, IsNonDecreasingBy-from_all_adjacent, IsPermutation-sym}
use Rattle.std.proofs.lemmas.Slice.Eq.{starts_is}
use Rattle.sm_model.specs.Graphs.{text_cmp}
use Rattle.sm_model.proofs.OneRising.{contains_behind, contains_either, contains_head, contains_none}
use Rattle.sm_model.proofs.Worklist.{apart}
use Rattle.sm_http_rules.specs.steps.Shortest.{AreApart, IsApart, place_of}
use Rattle.sm_http_rules.specs.steps.WireNames.{BeginsWith, BeginsWithOne}

-- the test is the relation
starts_begins : (t p : List ℕ) → starts_with eqb t p ≡ true → BeginsWith t p
starts_begins t p h = (drop (length p) t, (starts_is Decides-eqb t p (starts_with eqb t p) refl).0 h)

begins_starts : (t p : List ℕ) → BeginsWith t p → starts_with eqb t p ≡ true
begins_starts t p h = (starts_is Decides-eqb t p (starts_with eqb t p) refl).1 h.0 h.1

-- the order of texts
pub same_text : (a b : List ℕ) → text_cmp a b ≡ Equal → a ≡ b
same_text = slice_cmp-IsAntisymmetric nat_cmp-IsAntisymmetric

pub turned_less : (a b : List ℕ) → text_cmp a b ≡ Greater → text_cmp b a ≡ Less
turned_less a b h = nat_list_cmp_total.antisymm b a ∙ ap ordering_reverse h

below_both : (t p q : List ℕ) → text_cmp t p ≡ Less → (text_cmp q p ≡ Less → ⊥) → text_cmp t q ≡ Less
below_both t p q less above = by (text_cmp t q) refl
  where
    by : (o : Ordering) → text_cmp t q ≡ o → o ≡ Less
    by Less is = refl
    by Equal is = absurd (above (subst (λ x. text_cmp x p ≡ Less) (same_text t q is) less))
    by Greater is = absurd (above (nat_list_cmp_total.trans q t p (turned_less t q is) less))

not_below : (p m : List ℕ) → text_cmp (p ++ m) p ≡ Less → ⊥
not_below [] [] h = apart (ap is_lt h)
not_below [] (x ∷ m) h = apart (ap is_lt h)
not_below (c ∷ p) m h =
    not_below p m (sym (ap (λ o. ordering_then o (text_cmp (p ++ m) p)) (tied_itself nat_cmp_total c)) ∙ h)

-- what stands between a prefix and a text that begins with it begins with it too
between : (p m q : List ℕ) → (text_cmp q p ≡ Less → ⊥) → text_cmp q (p ++ m) ≡ Less → BeginsWith q p
between [] m q above less = (q, refl)
between (c ∷ p) m [] above less = absurd (above refl)
between (c ∷ p) m (d ∷ q) above less = by (nat_cmp d c) refl (between p m q) above less
  where
    by : (o : Ordering) → nat_cmp d c ≡ o → ((text_cmp q p ≡ Less → ⊥) → text_cmp q (p ++ m) ≡ Less → BeginsWith q p)
        → (ordering_then o (text_cmp q p) ≡ Less → ⊥) → ordering_then o (text_cmp q (p ++ m)) ≡ Less → BeginsWith (d ∷ q) (c ∷ p)
    by Less is rest above less = absurd (above refl)
    by Greater is rest above less = absurd (apart (ap is_lt less))
    by Equal is rest above less =
        let r = rest above less in
        (r.0, ap (λ x. x ∷ q) (nat_cmp-IsAntisymmetric d c is) ∙ ap (λ ys. c ∷ ys) r.1)

begins_both : (t q p : List ℕ) → BeginsWith t q → BeginsWith q p → BeginsWith t p
begins_both t q p h k = (k.0 ++ h.0, h.1 ∙ ap (λ x. x ++ h.0) k.1 ∙ append_assoc p k.0 h.0)

-- one of some prefixes
one_from : (t : List ℕ) (ps : List (List ℕ)) → BeginsWithOne t ps → (p : List ℕ) × Contains ps p × BeginsWith t p
one_from t [] h = absurd h
one_from t (p ∷ ps) (inl h) = (p, contains_head p ps, h)
one_from t (p ∷ ps) (inr h) = let r = one_from t ps h in (r.0, contains_behind p r.0 ps r.1, r.2)

one_to : (t : List ℕ) (ps : List (List ℕ)) (p : List ℕ) → Contains ps p → BeginsWith t p → BeginsWithOne t ps
one_to t [] p c h = absurd (contains_none p c)
one_to t (q ∷ ps) p c h = elim (contains_either q p ps c) [
  | inl same ↦ inl (subst (BeginsWith t) (sym same) h)
  | inr more ↦ inr (one_to t ps p more h)
]

-- those that are kept
abbrev pub begins_kept : List ℕ → List ℕ → Bool
begins_kept later kept = starts_with eqb later kept

kept_too : (t x : List ℕ) (ys : List (List ℕ)) → BeginsWith t x ⊎ BeginsWithOne t ys → BeginsWithOne t (dedup_from begins_kept x ys)
kept_too t x [] h = h
kept_too t x (y ∷ ys) h = by (starts_with eqb y x) refl (kept_too t x ys) (kept_too t y ys) h
  where
    by : (b : Bool) → starts_with eqb y x ≡ b → (BeginsWith t x ⊎ BeginsWithOne t ys → BeginsWithOne t (dedup_from begins_kept x ys))
        → (BeginsWith t y ⊎ BeginsWithOne t ys → BeginsWithOne t (dedup_from begins_kept y ys))
        → BeginsWith t x ⊎ (BeginsWith t y ⊎ BeginsWithOne t ys)
        → BeginsWithOne t (cond b (dedup_from begins_kept x ys) (x ∷ dedup_from begins_kept y ys))
    by true is same next (inl here) = same (inl here)
    by true is same next (inr (inl one)) = same (inl (begins_both t y x one (starts_begins y x is)))
    by true is same next (inr (inr more)) = same (inr more)
    by false is same next (inl here) = inl here
    by false is same next (inr more) = inr (next more)

kept_any : (t : List ℕ) (ps : List (List ℕ)) → BeginsWithOne t ps → BeginsWithOne t (dedup begins_kept ps)
kept_any t [] h = h
kept_any t (p ∷ ps) h = kept_too t p ps h

pub kept_same : (given sorted : List (List ℕ)) → IsPermutation given sorted → (t : List ℕ)
    → BeginsWithOne t (dedup begins_kept sorted) ↔ BeginsWithOne t given
kept_same given sorted moved t = (
  λ h.
      let x = one_from t (dedup begins_kept sorted) h in
      one_to t given x.0
      (Contains-permutation sorted given x.0 (IsPermutation-sym given sorted moved) (Contains-from_dedup begins_kept sorted x.0 x.1)) x.2,
  λ h.
      let x = one_from t given h in
      kept_any t sorted (one_to t sorted x.0 (Contains-permutation given sorted x.0 moved x.1) x.2),
)

-- they are apart
abbrev pub before : List ℕ → List ℕ → Bool
before a b = is_lt (text_cmp a b)

abbrev Rise : List ℕ → List (List ℕ) → Type 0
Rise x [] = Unit {0}
Rise x (y ∷ ys) = (text_cmp y x ≡ Less → ⊥) × Rise y ys

sorted_rise : (x : List ℕ) (ys : List (List ℕ)) → IsSortedBy before (x ∷ ys) → Rise x ys
sorted_rise x [] up = tt
sorted_rise x (y ∷ ys) up = (
  λ h. apart (sym (up 0 [] (omega arith) (omega arith)) ∙ ap is_lt h),
  sorted_rise y ys (λ k d low high.
      let next : suc k + 1 ≡ suc (k + 1) = omega arith in
      subst (λ n. before (get_or (x ∷ y ∷ ys) n d) (get_or (y ∷ ys) k d) ≡ false) next
      (up (suc k) d (omega arith) (omega (arith, high)))),
)

rise_past : (x y : List ℕ) (ys : List (List ℕ)) → (text_cmp y x ≡ Less → ⊥) → Rise y ys → Rise x ys
rise_past x y [] above up = tt
rise_past x y (z ∷ zs) above up = (λ h. up.0 (below_both z x y h above), up.1)

first_is : (x : List ℕ) (ys : List (List ℕ)) (d : List ℕ) → get_or (dedup_from begins_kept x ys) 0 d ≡ x
first_is x [] d = refl
first_is x (y ∷ ys) d = by (starts_with eqb y x) (first_is x ys d)
  where
    by : (b : Bool) → get_or (dedup_from begins_kept x ys) 0 d ≡ x
        → get_or (cond b (dedup_from begins_kept x ys) (x ∷ dedup_from begins_kept y ys)) 0 d ≡ x
    by true rest = rest
    by false rest = refl

one_before : (x : List ℕ) (zs : List (List ℕ)) → ((d : List ℕ) → IsApart x (get_or zs 0 d)) → AreApart zs → AreApart (x ∷ zs)
one_before x zs first rest zero d small = first d
one_before x zs first rest (suc k) d small =
    let next : suc (k + 1) ≡ suc k + 1 = omega arith in
    subst (λ n. IsApart (get_or zs k d) (get_or (x ∷ zs) n d)) next (rest k d (omega (arith, small)))

apart_from : (x : List ℕ) (ys : List (List ℕ)) → Rise x ys → AreApart (dedup_from begins_kept x ys)
apart_from x [] up = λ k d small. absurd (omega (arith, small))
apart_from x (y ∷ ys) up =
    by (starts_with eqb y x) refl (apart_from x ys (rise_past x y ys up.0 up.1)) (apart_from y ys up.1)
  where
    by : (b : Bool) → starts_with eqb y x ≡ b → AreApart (dedup_from begins_kept x ys)
        → AreApart (dedup_from begins_kept y ys)
        → AreApart (cond b (dedup_from begins_kept x ys) (x ∷ dedup_from begins_kept y ys))
    by true is same next = same
    by false is same next =
        one_before x (dedup_from begins_kept y ys)
        (λ d. subst (IsApart x) (sym (first_is y ys d)) (up.0, λ h. apart (sym is ∙ begins_starts y x h))) next

pub kept_apart : (sorted : List (List ℕ)) → IsSortedBy before sorted → AreApart (dedup begins_kept sorted)
kept_apart [] up = λ k d small. absurd (omega (arith, small))
kept_apart (x ∷ ys) up = apart_from x ys (sorted_rise x ys up)

-- places rise along them
module _ (t : List ℕ) where
  places_rise : (p q : List ℕ) → IsApart p q → ordering_index (place_of p t) ≤ ordering_index (place_of q t)
  places_rise p q (above, free) = by (starts_with eqb t p) (starts_with eqb t q) (text_cmp p t) (text_cmp q t) refl refl refl refl
    where
      never : (a b : ℕ) → ⊥ → a ≤ b
      never a b h = absurd h

      by : (a b : Bool) (o r : Ordering) → starts_with eqb t p ≡ a → starts_with eqb t q ≡ b → text_cmp p t ≡ o → text_cmp q t ≡ r
          → ordering_index (cond a Equal o) ≤ ordering_index (cond b Equal r)
      by true true o r ia ib io ir = omega arith
      by true false o Less ia ib io ir =
          let m = starts_begins t p ia in
          never 1 0 (free (between p m.0 q above (subst (λ x. text_cmp q x ≡ Less) m.1 ir)))
      by true false o Equal ia ib io ir = omega arith
      by true false o Greater ia ib io ir = omega arith
      by false true Less r ia ib io ir = omega arith
      by false true Equal r ia ib io ir = omega arith
      by false true Greater r ia ib io ir =
          let m = starts_begins t q ib in
          never 2 1 (not_below q m.0 (subst (λ x. text_cmp x q ≡ Less) m.1 (below_both t p q (turned_less p t io) above)))
      by false false Less r ia ib io ir = omega arith
      by false false Equal Less ia ib io ir =
          never 1 0 (above (subst (λ x. text_cmp q x ≡ Less) (sym (same_text p t io)) ir))
      by false false Equal Equal ia ib io ir = omega arith
      by false false Equal Greater ia ib io ir = omega arith
      by false false Greater Less ia ib io ir =
          never 2 0 (above (nat_list_cmp_total.trans q t p ir (turned_less p t io)))
      by false false Greater Equal ia ib io ir =
          never 2 1 (above (subst (λ x. text_cmp x p ≡ Less) (sym (same_text q t ir)) (turned_less p t io)))
      by false false Greater Greater ia ib io ir = omega arith

  pub places : (ps : List (List ℕ)) → AreApart ps → IsNonDecreasingBy (λ p. ordering_index (place_of p t)) ps
  places ps are =
      IsNonDecreasingBy-from_all_adjacent (λ p. ordering_index (place_of p t)) ps
      (λ k d small. places_rise (get_or ps k d) (get_or ps (k + 1) d) (are k d small))

  -- what the search answers
  begun_by : (p : List ℕ) → place_of p t ≡ Equal → BeginsWith t p
  begun_by p h = by (starts_with eqb t p) refl h
    where
      by : (b : Bool) → starts_with eqb t p ≡ b → cond b Equal (text_cmp p t) ≡ Equal → BeginsWith t p
      by true is h = starts_begins t p is
      by false is h = ([], sym (same_text p t h) ∙ sym (append-nil p))

  by_begun : (p : List ℕ) → BeginsWith t p → place_of p t ≡ Equal
  by_begun p h = ap (λ b. cond b Equal (text_cmp p t)) (begins_starts t p h)

  pub found_one : (ps : List (List ℕ)) (i : ℕ) → i < length ps → HoldsAt (λ p. place_of p t ≡ Equal) ps i → BeginsWithOne t ps
  found_one ps i small at = one_to t ps (get_or ps i []) (Contains-get_or ps i [] small) (begun_by (get_or ps i []) (at []))

  pub found_none : (ps : List (List ℕ)) (i : ℕ) → IsPartitionPoint (λ p. place_of p t ≡ Less) (λ p. place_of p t ≡ Greater) ps i
      → BeginsWithOne t ps → ⊥
  found_none ps i parted h =
      let x = one_from t ps h in
      let k = x.1.0 in
      let here : place_of (get_or ps k x.0) t ≡ Equal = ap (λ p. place_of p t) x.1.2 ∙ by_begun x.0 x.2 in
      elim (cases_lt k i) [
        | inl less ↦ apart (sym (ap is_eq (parted.0 k x.0 (omega arith) less)) ∙ ap is_eq here)
        | inr ge ↦ apart (sym (ap is_eq (parted.1 k x.0 ge x.1.1)) ∙ ap is_eq here)
      ]
