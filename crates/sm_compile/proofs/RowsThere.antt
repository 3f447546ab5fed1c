-- Rows that are told by their places, from what each of them says; and the list in which a place of lists joined is.
use Rattle.std.proofs.Common.{◌≡◌, inl, inr, ℕ, zero, suc, ◌+◌, ◌-◌, ◌<◌, ◌≤◌, List, [], ◌∷◌, ◌++◌, length, get_or, take, refl, sym, subst}
use Rattle.std.proofs.Common.{arith}
use Rattle.std.specs.List.{flat_map}
use Rattle.std.proofs.lemmas.Bool.{cases_lt}
use Rattle.std.proofs.lemmas.List.{length-append}
use Rattle.sm_compile.specs.steps.Numbered.{EachAt}
use Rattle.sm_compile.proofs.Blocks.{each_more, each_none}

pub rows_there : {D : Type 0} (Says : ℕ → D → Type 0) (n : ℕ) → ((k : ℕ) → k < n → (d : D) × Says k d)
    → (ds : List D) × (length ds ≡ n) × EachAt Says ds
rows_there Says zero each = ([], refl, each_none Says)
rows_there Says (suc n) each =
    let rest = rows_there Says n (λ k lt. each k (omega (arith, lt))) in
    let last : n < suc n = omega arith in
    let here = each n last in
    let both = length-append rest.0 (here.0 ∷ []) in
    let long : length (rest.0 ++ here.0 ∷ []) ≡ suc n = omega (arith, both, rest.1) in
    (rest.0 ++ here.0 ∷ [], long, each_more Says rest.0 here.0 rest.2 (subst (λ k. Says k here.0) (sym rest.1) here.1))

module _ {X Y : Type 0} (f : X → List Y) (d : X) where
  pub record IsInBlock (xs : List X) (k : ℕ) : Type 0 where
    pub block : ℕ
    pub at : ℕ
    pub inside : block < length xs
    pub within : at < length (f (get_or xs block d))
    pub is : k ≡ length (flat_map f (take block xs)) + at

  -- in one of those behind the first
  in_later : (x : X) (xs : List X) (k : ℕ) → length (f x) ≤ k → IsInBlock xs (k - length (f x)) → IsInBlock (x ∷ xs) k
  in_later x xs k ge rest =
      let before = length-append (f x) (flat_map f (take rest.block xs)) in
      let is : k ≡ length (f x ++ flat_map f (take rest.block xs)) + rest.at = omega (arith, ge, rest.is, before) in
      record { block = suc rest.block; at = rest.at; inside = omega (arith, rest.inside); within = rest.within; is = is }

  pub in_block : (xs : List X) (k : ℕ) → k < length (flat_map f xs) → IsInBlock xs k
  in_block [] k lt = absurd (omega (arith, lt))
  in_block (x ∷ xs) k lt = elim (cases_lt k (length (f x))) [
    | inl less ↦ record { block = 0; at = k; inside = omega arith; within = less; is = omega arith }
    | inr ge ↦ in_later x xs k ge (in_block xs (k - length (f x))
        (let long = length-append (f x) (flat_map f xs) in let less : k < length (f x ++ flat_map f xs) = lt in omega
        (arith, ge, less, long)))
  ]
