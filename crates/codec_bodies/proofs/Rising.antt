-- What rises, one step after the other, by any total order; and a loop over it, which remembers the one before.
use Rattle.std.proofs.Common.{◌≡◌, ◌≤◌, ℕ, zero, suc, ◌<◌, List, [], ◌∷◌, length, drop, refl, sym, subst, arith}
use Rattle.std.specs.Prelude.{Option, Some, None}
use Rattle.std.specs.Ordering.{nat_cmp}
use Rattle.std.proofs.lemmas.Bool.Decides.{nat_tests}
use Rattle.std.specs.Cmp.{IsTotalOrder}
use Rattle.std.specs.declared.cmp.Ordering.{Ordering}
use Rattle.std.specs.declared.cmp.Ordering.TheVariants.{Less}
use Rattle.std.specs.List.{AllByRecursion}
use Rattle.std.specs.List.Sorted.{IsStrictlySortedBy}

-- what is still to come, with the one before it
abbrev pub with_last : {K : Type 0} → Option K → List K → List K
with_last None xs = xs
with_last (Some x) xs = x ∷ xs

module _ {K : Type 0} (cmp : K → K → Ordering) (order : IsTotalOrder cmp) where
  below_all : (x y : K) (ys : List K) → cmp x y ≡ Less → AllByRecursion (λ z. cmp y z ≡ Less) ys → AllByRecursion (λ z. cmp x z ≡ Less) ys
  below_all x y [] h b = b
  below_all x y (z ∷ zs) h b = (order.trans x y z h b.0, below_all x y zs h b.1)

  pub rise_behind : (x y : K) (ys : List K) → cmp x y ≡ Less → IsStrictlySortedBy cmp (y ∷ ys) → IsStrictlySortedBy cmp (x ∷ y ∷ ys)
  unfolding IsStrictlySortedBy
  rise_behind x y ys h s = ((h, below_all x y ys h s.0), s)

  pub none_rise : IsStrictlySortedBy cmp []
  unfolding IsStrictlySortedBy
  none_rise = tt

  pub one_rises : (x : K) → IsStrictlySortedBy cmp (x ∷ [])
  unfolding IsStrictlySortedBy
  one_rises x = (tt, tt)

-- by what is kept of a list, as that it rises: a step behind another one, the first step, and the end
module _ {A : Type 0} (S : List A → Type 0) where
  pub step_behind : (last : Option A) (b x : A) (left rest : List A) (W : Type 0) → last ≡ Some b → left ≡ x ∷ rest
      → (S (x ∷ rest) → S (b ∷ x ∷ rest)) → (S (with_last last left) → W) → S (x ∷ rest) → W
  step_behind last b x left rest W is cut rises kept h =
      kept (subst (λ l. S (with_last l left)) (sym is) (subst (λ d. S (b ∷ d)) (sym cut) (rises h)))

  pub first_step : (last : Option A) (x : A) (left rest : List A) (W : Type 0) → last ≡ None → left ≡ x ∷ rest
      → (S (with_last last left) → W) → S (x ∷ rest) → W
  first_step last x left rest W is cut kept h = kept (subst (λ l. S (with_last l left)) (sym is) (subst S (sym cut) h))

  pub at_end : (last : Option A) (left : List A) (W : Type 0) → left ≡ [] → S [] → ((x : A) → S (x ∷ [])) → (S (with_last last left) → W)
      → W
  at_end None left W none nothing one kept = kept (subst S (sym none) nothing)
  at_end (Some x) left W none nothing one kept = kept (subst (λ d. S (x ∷ d)) (sym none) (one x))

pub drop_none : {A : Type 0} (xs : List A) (i : ℕ) → length xs ≤ i → drop i xs ≡ []
drop_none [] zero h = refl
drop_none [] (suc i) h = refl
drop_none (x ∷ xs) zero h = absurd (omega (arith, h))
drop_none (x ∷ xs) (suc i) h = drop_none xs i (omega (arith, h))

pub less_first : (a b : ℕ) → a < b → nat_cmp a b ≡ Less
less_first a b h = grind (arith, nat_tests)
