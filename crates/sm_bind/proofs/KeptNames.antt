-- What holds of all members holds of those that pass a test.
use Rattle.std.proofs.Common.{◌≡◌, ℕ, ◌≤◌, Bool, true, false, cond, List, [], ◌∷◌, map, length, refl, ap, arith}
use Rattle.std.specs.List.{AllByRecursion, filter}
use Rattle.sm_shapes.specs.Names.{AllDiffer, NoneIs}

module _ (p : ℕ → Bool) where
  pub all_kept : (P : ℕ → Type 0) (ks : List ℕ) → AllByRecursion P ks → AllByRecursion P (filter p ks)
  all_kept P [] h = tt
  all_kept P (k ∷ ks) h = by (all_kept P ks h.1) (p k)
    where
      by : AllByRecursion P (filter p ks) → (b : Bool) → AllByRecursion P (cond b (k ∷ filter p ks) (filter p ks))
      by rest true = (h.0, rest)
      by rest false = rest

  none_kept : (f : ℕ → List ℕ) (name : List ℕ) (ks : List ℕ) → NoneIs name (map f ks) → NoneIs name (map f (filter p ks))
  none_kept f name [] h = tt
  none_kept f name (k ∷ ks) h = by (none_kept f name ks h.1) (p k)
    where
      by : NoneIs name (map f (filter p ks)) → (b : Bool) → NoneIs name (map f (cond b (k ∷ filter p ks) (filter p ks)))
      by rest true = (h.0, rest)
      by rest false = rest

  pub differ_kept : (f : ℕ → List ℕ) (ks : List ℕ) → AllDiffer (map f ks) → AllDiffer (map f (filter p ks))
  differ_kept f [] h = tt
  differ_kept f (k ∷ ks) h = by (differ_kept f ks h.1) (p k)
    where
      by : AllDiffer (map f (filter p ks)) → (b : Bool) → AllDiffer (map f (cond b (k ∷ filter p ks) (filter p ks)))
      by rest true = (none_kept f (f k) ks h.0, rest)
      by rest false = rest

  few_kept : (ks : List ℕ) → length (filter p ks) ≤ length ks
  few_kept [] = omega arith
  few_kept (k ∷ ks) = by (few_kept ks) (p k)
    where
      by : length (filter p ks) ≤ length ks → (b : Bool) → length (cond b (k ∷ filter p ks) (filter p ks)) ≤ length (k ∷ ks)
      by few true = omega (arith, few)
      by few false = omega (arith, few)

  -- where as many are kept, all are
  pub whole_kept : (ks : List ℕ) → length (filter p ks) ≡ length ks → filter p ks ≡ ks
  whole_kept [] h = refl
  whole_kept (k ∷ ks) h = by (λ many. whole_kept ks many) (p k) h
    where
      by : (length (filter p ks) ≡ length ks → filter p ks ≡ ks) → (b : Bool)
          → length (cond b (k ∷ filter p ks) (filter p ks)) ≡ length (k ∷ ks) → cond b (k ∷ filter p ks) (filter p ks) ≡ k ∷ ks
      by rest true many = ap (λ ls. k ∷ ls) (rest (omega (arith, many)))
      by rest false many = let few = few_kept ks in absurd (omega (arith, many, few))
