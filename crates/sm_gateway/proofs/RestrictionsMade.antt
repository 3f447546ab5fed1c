-- The paths by which operations aren't served, one more.
use Rattle.std.proofs.Common.{◌≡◌, ◌<◌, ℕ, zero, suc, List, [], ◌∷◌, ◌++◌, Option, Some, length, ap, arith}
use Rattle.std.specs.Prelude.{slice_get}

pub got_more : (xs : List (Option (List ℕ))) (x : Option (List ℕ)) (f : ℕ → Option (List ℕ))
    → ((o : ℕ) → o < length xs → slice_get xs o ≡ Some (f o)) → x ≡ f (length xs) → (o : ℕ) → o < length (xs ++ x ∷ [])
    → slice_get (xs ++ x ∷ []) o ≡ Some (f o)
got_more [] x f all is zero lt = ap Some is
got_more [] x f all is (suc o) lt = absurd (omega (arith, lt))
got_more (y ∷ xs) x f all is zero lt = all zero (omega arith)
got_more (y ∷ xs) x f all is (suc o) lt =
    got_more xs x (λ k. f (suc k)) (λ k less. all (suc k) (omega (arith, less))) is o (omega (arith, lt))
