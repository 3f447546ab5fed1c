-- What holds of the bytes of a class holds of their run.
use Rattle.std.proofs.Common.{◌≡◌, ℕ, suc, Bool, true, false, cond, ◌+◌, List, [], ◌∷◌, take, refl, subst, arith}
use Rattle.std.specs.List.{prefix_len}

-- what holds of no bytes, and of bytes with one of the class before them where it holds of them, holds of the run
at_test : (p : ℕ → Bool) (P : List ℕ → Type 0) → P [] → ((c : ℕ) (s : List ℕ) → p c ≡ true → P s → P (c ∷ s)) → (x : ℕ) (xs : List ℕ)
    → P (take (prefix_len p xs) xs)
    → (b : Bool) → p x ≡ b → P (take (cond b (1 + prefix_len p xs) 0) (x ∷ xs))
at_test p P none more x xs rest true h = subst (λ n. P (take n (x ∷ xs))) (next (prefix_len p xs))
    (more x (take (prefix_len p xs) xs) h rest)
  where
    next : (n : ℕ) → suc n ≡ 1 + n
    next n = omega arith
at_test p P none more x xs rest false h = none

pub of_run : (p : ℕ → Bool) (P : List ℕ → Type 0) → P [] → ((c : ℕ) (s : List ℕ) → p c ≡ true → P s → P (c ∷ s)) → (xs : List ℕ)
    → P (take (prefix_len p xs) xs)
of_run p P none more [] = none
of_run p P none more (x ∷ xs) = at_test p P none more x xs (of_run p P none more xs) (p x) refl
