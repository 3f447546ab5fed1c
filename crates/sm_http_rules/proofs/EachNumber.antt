-- What holds of the element of each number, one by one.
use Rattle.std.proofs.Common.{◌≡◌, ◌⊎◌, ◌<◌, ◌+◌, inl, inr, ℕ, List, [], ◌∷◌, ◌++◌, get_or, length, refl, sym, ap, ◌∙◌, subst, arith}
use Rattle.std.proofs.Math.Seq.{get_or-append_seam}
use Rattle.std.proofs.lemmas.Bool.{cases_order}
use Rattle.std.proofs.lemmas.List.{get_or_append_left, length-append}
use Rattle.sm_http_rules.specs.steps.Labels.{AreEach}

below : (k n : ℕ) → k < n + 1 → (k < n) ⊎ (k ≡ n)
below k n less = elim (cases_order k n) [
  | inl same ↦ inr same
  | inr other ↦ elim other [ inl small ↦ inl small | inr more ↦ absurd (omega (arith, less, more)) ]
]

-- what holds of each, put one by one
module _ {X : Type 0} (Is : ℕ → X → Type 0) (default : X) where
  pub each_none : AreEach Is default 0 []
  each_none = record { whole = refl; each = λ k less. absurd (omega (arith, less)) }

  pub each_more : (n : ℕ) (xs : List X) (x : X) → AreEach Is default n xs → Is n x → AreEach Is default (n + 1) (xs ++ x ∷ [])
  each_more n xs x are here = record {
    whole = let long = length-append xs (x ∷ []) in omega (arith, long, are.whole);
    each = λ k less. elim (below k n less) [ inl small ↦ before k small | inr same ↦ last k same ];
  }
    where
      before : (k : ℕ) → k < n → Is k (get_or (xs ++ x ∷ []) k default)
      before k small =
          let within : k < length xs = omega (arith, small, are.whole) in
          subst (Is k) (sym (get_or_append_left xs (x ∷ []) default k within)) (are.each k small)

      seam : get_or (xs ++ x ∷ []) n default ≡ x
      seam = ap (λ i. get_or (xs ++ x ∷ []) i default) (sym are.whole) ∙ get_or-append_seam xs x [] default

      last : (k : ℕ) → k ≡ n → Is k (get_or (xs ++ x ∷ []) k default)
      last k same = subst (λ i. Is i (get_or (xs ++ x ∷ []) i default)) (sym same) (subst (Is n) (sym seam) here)
