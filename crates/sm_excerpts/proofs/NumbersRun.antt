-- Numbers that follow each other.
use Rattle.std.proofs.Common.{◌≡◌, inl, inr, ℕ, zero, suc, ◌+◌, ◌<◌, ◌≤◌, List, [], ◌∷◌, ◌++◌, length, refl, sym, ap, ◌∙◌, subst, arith}
use Rattle.std.specs.Cmp.{nat_cmp_is}
use Rattle.std.specs.List.{AllByRecursion, AllZip, Contains}
use Rattle.std.specs.List.Sorted.{IsStrictlySortedBy}
use Rattle.std.specs.Ordering.{nat_cmp}
use Rattle.std.specs.declared.cmp.Ordering.TheVariants.{Less}
use Rattle.std.proofs.lemmas.Bool.{cases_lt}
use Rattle.sm_model.proofs.OneRising.{contains_behind, contains_head}
use Rattle.sm_excerpts.specs.steps.Rows.{numbers_from}

pub numbers_long : (first n : ℕ) → length (numbers_from first n) ≡ n
numbers_long first zero = refl
numbers_long first (suc n) = ap suc (numbers_long (suc first) n)

pub numbers_more : (first n : ℕ) → numbers_from first (n + 1) ≡ numbers_from first n ++ (first + n) ∷ []
numbers_more first zero = let e : first ≡ first + 0 = omega arith in ap (λ k. k ∷ []) e
numbers_more first (suc n) =
    let next : suc n + 1 ≡ suc (n + 1) = omega arith in
    let e : suc first + n ≡ first + suc n = omega arith in
    ap (numbers_from first) next
    ∙ ap (λ ks. first ∷ ks) (numbers_more (suc first) n ∙ ap (λ k. numbers_from (suc first) n ++ k ∷ []) e)

pub number_within : (first n k : ℕ) → first ≤ k → k < first + n → Contains (numbers_from first n) k
number_within first zero k le lt = absurd (omega (arith, le, lt))
number_within first (suc n) k le lt = elim (cases_lt first k) [
  | inl less ↦ contains_behind first k (numbers_from (suc first) n)
      (number_within (suc first) n k (omega (arith, less)) (omega (arith, lt)))
  | inr ge ↦ let same : first ≡ k = omega (arith, le, ge) in
      subst (Contains (numbers_from first (suc n))) same (contains_head first (numbers_from (suc first) n))
]

above_all : (f h n : ℕ) → f < h → AllByRecursion (λ k. nat_cmp f k ≡ Less) (numbers_from h n)
above_all f h zero lt = tt
above_all f h (suc n) lt = (sym (nat_cmp_is f h Less lt), above_all f (suc h) n (omega (arith, lt)))

pub numbers_rise : (first n : ℕ) → IsStrictlySortedBy nat_cmp (numbers_from first n)
unfolding IsStrictlySortedBy
numbers_rise first zero = tt
numbers_rise first (suc n) = (above_all first (suc first) n (omega arith), numbers_rise (suc first) n)

-- what each of these numbers is paired with
pub at_number : (R : ℕ → ℕ → Type 0) (ks : List ℕ) (first j : ℕ) → first ≤ j → j < first + length ks
    → AllZip R (numbers_from first (length ks)) ks → (k : ℕ) × R j k
at_number R [] first j le lt h = absurd (omega (arith, le, lt))
at_number R (k ∷ ks) first j le lt h = elim (cases_lt first j) [
  | inl less ↦ at_number R ks (suc first) j (omega (arith, less)) (omega (arith, lt)) h.1
  | inr ge ↦ let same : first ≡ j = omega (arith, le, ge) in (k, subst (λ n. R n k) same h.0)
]
