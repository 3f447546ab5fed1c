-- Lists but for what stands at some places, which rise.
use Rattle.std.proofs.Common.{◌≡◌, inl, inr, ℕ, zero, suc, ◌+◌, ◌<◌, ◌≤◌, Bool, true, false, cond, List, [], ◌∷◌, Option, Some, None, length}
use Rattle.std.proofs.Common.{refl, sym, ap, ◌∙◌, subst, arith}
use denote.Ref.{Bor}
use Rattle.std.specs.Prelude.{◌==◌, MatchOption, slice_get}
use Rattle.std.specs.List.{HoldsAt}
use Rattle.std.specs.Option.{option_copied}
use Rattle.std.proofs.lemmas.Option.{slice_get-get_or, slice_get_past}
use Rattle.std.proofs.lemmas.Bool.{cases_lt, eqb-true, le-ltb, lt-ltb}
use Rattle.std.proofs.lemmas.Bool.Decides.{eqb_tells}
use Rattle.sm_model.proofs.Worklist.{apart}
use Rattle.sm_service.specs.ErrorsView.{RiseBetween, but_at}
use Rattle.sm_service.specs.steps.KeptPlaces.{moved_place}

-- that a number isn't another
differs : (a b : ℕ) → (a == b) ≡ false → a ≡ b → ⊥
differs a b h e = elim (eqb_tells a b) [ inl same ↦ apart (sym h ∙ same.0) | inr other ↦ other.1 e ]

above : (k p : ℕ) → k ≤ p → (p ≡ k → ⊥) → suc k ≤ p
above k p le other = elim (cases_lt k p) [
  | inl less ↦ omega (arith, less)
  | inr ge ↦ absurd (other (omega (arith, le, ge)))
]

-- a place moves on, past those that are left out before it
pub moved_past : (p at : ℕ) (ps : List ℕ) → p ≤ at → moved_place (p ∷ ps) at ≡ moved_place ps (suc at)
moved_past p at ps le = ap (λ b. cond b at (moved_place ps (suc at))) (le-ltb at p le)

pub moved_not : (p at : ℕ) (ps : List ℕ) → at < p → moved_place (p ∷ ps) at ≡ at
moved_not p at ps lt = ap (λ b. cond b at (moved_place ps (suc at))) (lt-ltb at p lt)

moved_up : (ps : List ℕ) (at : ℕ) → at ≤ moved_place ps at
moved_up [] at = omega arith
moved_up (p ∷ ps) at = elim (cases_lt at p) [
  | inl less ↦ let same = moved_not p at ps less in omega (arith, same)
  | inr ge ↦ let same = moved_past p at ps ge in let rest = moved_up ps (suc at) in omega (arith, same, rest)
]

-- by no more than there are
pub moved_few : (ps : List ℕ) (at : ℕ) → moved_place ps at ≤ at + length ps
moved_few [] at = omega arith
moved_few (p ∷ ps) at = elim (cases_lt at p) [
  | inl less ↦ let same = moved_not p at ps less in omega (arith, same)
  | inr ge ↦ let same = moved_past p at ps ge in let rest = moved_few ps (suc at) in omega (arith, same, rest)
]

module _ {X : Type 0} where
  -- how many are left
  pub kept_length : (ps : List ℕ) (k : ℕ) (xs : List X) → RiseBetween k (k + length xs) ps
      → length (but_at ps k xs) + length ps ≡ length xs
  kept_length [] k [] r = refl
  kept_length (p ∷ ps) k [] r = absurd (omega (arith, r.0, r.1))
  kept_length [] k (x ∷ xs) r = omega arith
  kept_length (p ∷ ps) k (x ∷ xs) r =
      by (p == k) refl
      (λ same. kept_length ps (suc k) xs (subst (λ h. RiseBetween (suc k) h ps) high
      (subst (λ q. RiseBetween (suc q) (k + suc (length xs)) ps) same r.2)))
      (λ more. kept_length (p ∷ ps) (suc k) xs (subst (λ h. RiseBetween (suc k) h (p ∷ ps)) high (more, r.1, r.2)))
    where
      high : k + suc (length xs) ≡ suc k + length xs
      high = omega arith

      by : (b : Bool) → (p == k) ≡ b → (p ≡ k → length (but_at ps (suc k) xs) + length ps ≡ length xs)
          → (suc k ≤ p → length (but_at (p ∷ ps) (suc k) xs) + suc (length ps) ≡ length xs)
          → length (cond b (but_at ps (suc k) xs) (x ∷ but_at (p ∷ ps) (suc k) xs)) + suc (length ps) ≡ suc (length xs)
      by true is left_out kept = let rest = left_out (eqb-true p k is) in omega (arith, rest)
      by false is left_out kept = let rest = kept (above k p r.0 (differs p k is)) in omega (arith, rest)

  -- of a whole list
  whole : (ps : List ℕ) (xs : List X) → RiseBetween 0 (length xs) ps → RiseBetween 0 (0 + length xs) ps
  whole ps xs r = let high : length xs ≡ 0 + length xs = omega arith in subst (λ h. RiseBetween 0 h ps) high r

  pub kept_whole : (ps : List ℕ) (xs : List X) → RiseBetween 0 (length xs) ps → length (but_at ps 0 xs) + length ps ≡ length xs
  kept_whole ps xs r = kept_length ps 0 xs (whole ps xs r)

  -- and what stands at a place of what is left
  pub kept_get : (ps : List ℕ) (k : ℕ) (xs : List X) (j i : ℕ) → RiseBetween k (k + length xs) ps → moved_place ps (k + j) ≡ k + i
      → slice_get (but_at ps k xs) j ≡ slice_get xs i
  kept_get ps k [] j i r e = refl
  kept_get [] k (x ∷ xs) j i r e = let same : j ≡ i = omega (arith, e) in ap (slice_get (x ∷ xs)) same
  kept_get (p ∷ ps) k (x ∷ xs) j zero r e = by (p == k) refl
    where
      first : (j : ℕ) → moved_place (p ∷ ps) (k + j) ≡ k + zero → slice_get (x ∷ but_at (p ∷ ps) (suc k) xs) j ≡ Some x
      first zero e = refl
      first (suc j) e = let up = moved_up (p ∷ ps) (k + suc j) in absurd (omega (arith, e, up))

      by : (b : Bool) → (p == k) ≡ b
          → slice_get (cond b (but_at ps (suc k) xs) (x ∷ but_at (p ∷ ps) (suc k) xs)) j ≡ Some x
      by true is =
          let same = eqb-true p k is in
          let past = moved_past p (k + j) ps (omega (arith, same)) in
          let up = moved_up ps (suc (k + j)) in
          absurd (omega (arith, e, past, up))
      by false is = first j e
  kept_get (p ∷ ps) k (x ∷ xs) j (suc i) r e =
      by (p == k) refl
      (λ same on. kept_get ps (suc k) xs j i (subst (λ h. RiseBetween (suc k) h ps) high
      (subst (λ q. RiseBetween (suc q) (k + suc (length xs)) ps) same r.2)) on)
      (λ more j on. kept_get (p ∷ ps) (suc k) xs j i (subst (λ h. RiseBetween (suc k) h (p ∷ ps)) high (more, r.1, r.2)) on)
    where
      high : k + suc (length xs) ≡ suc k + length xs
      high = omega arith

      next : (j : ℕ) → suc k ≤ p → moved_place (p ∷ ps) (k + j) ≡ k + suc i
          → ((j : ℕ) → moved_place (p ∷ ps) (suc k + j) ≡ suc k + i → slice_get (but_at (p ∷ ps) (suc k) xs) j ≡ slice_get xs i)
          → slice_get (x ∷ but_at (p ∷ ps) (suc k) xs) j ≡ slice_get xs i
      next zero more e rest = let stays = moved_not p (k + zero) ps (omega (arith, more)) in absurd (omega (arith, e, stays))
      next (suc j) more e rest =
          let step : suc k + j ≡ k + suc j = omega arith in
          let last : k + suc i ≡ suc k + i = omega arith in
          rest j (ap (moved_place (p ∷ ps)) step ∙ e ∙ last)

      by : (b : Bool) → (p == k) ≡ b
          → (p ≡ k → moved_place ps (suc k + j) ≡ suc k + i → slice_get (but_at ps (suc k) xs) j ≡ slice_get xs i)
          → (suc k ≤ p → (j : ℕ) → moved_place (p ∷ ps) (suc k + j) ≡ suc k + i
          → slice_get (but_at (p ∷ ps) (suc k) xs) j ≡ slice_get xs i)
          → slice_get (cond b (but_at ps (suc k) xs) (x ∷ but_at (p ∷ ps) (suc k) xs)) j ≡ slice_get xs i
      by true is left_out kept =
          let same = eqb-true p k is in
          let past = moved_past p (k + j) ps (omega (arith, same)) in
          let step : suc k + j ≡ suc (k + j) = omega arith in
          let last : k + suc i ≡ suc k + i = omega arith in
          left_out same (ap (moved_place ps) step ∙ sym past ∙ e ∙ last)
      by false is left_out kept = let more = above k p r.0 (differs p k is) in next j more e (kept more)

  -- the same, of a whole list
  pub kept_at_place : (ps : List ℕ) (xs : List X) (j : ℕ) → RiseBetween 0 (length xs) ps
      → slice_get (but_at ps 0 xs) j ≡ slice_get xs (moved_place ps j)
  kept_at_place ps xs j r =
      let first : moved_place ps (0 + j) ≡ 0 + moved_place ps j = let same : 0 + j ≡ j = omega arith in ap (moved_place ps) same ∙ omega arith in
      kept_get ps 0 xs j (moved_place ps j) (whole ps xs r) first

  -- what a slice answers at a place
  pub got_at_place : (r : Option (Bor X)) (xs : List X) (i : ℕ)
      → MatchOption r (length xs ≤ i) (λ x. (i < length xs) × HoldsAt (λ y. x.now ≡ y) xs i) → option_copied r ≡ slice_get xs i
  got_at_place None xs i past = sym (slice_get_past xs i past)
  got_at_place (Some x) xs i here = ap (λ y. Some y) (here.1 x.now) ∙ sym (slice_get-get_or xs i x.now here.0)
