-- What stands at a number of rows that stand behind others.
use Rattle.std.proofs.Common.{◌≡◌, ℕ, zero, suc, ◌<◌, List, [], ◌∷◌, ◌++◌, length, refl, arith}
use Rattle.std.specs.Prelude.{Some, slice_get}

pub get_left : {A : Type 0} (xs ys : List A) (k : ℕ) → k < length xs → slice_get (xs ++ ys) k ≡ slice_get xs k
get_left [] ys k h = absurd (omega (arith, h))
get_left (x ∷ xs) ys zero h = refl
get_left (x ∷ xs) ys (suc k) h = get_left xs ys k (omega (arith, h))

pub get_end : {A : Type 0} (xs : List A) (y : A) (ys : List A) → slice_get (xs ++ y ∷ ys) (length xs) ≡ Some y
get_end [] y ys = refl
get_end (x ∷ xs) y ys = get_end xs y ys

pub there : {A : Type 0} (xs : List A) (k : ℕ) → k < length xs → (x : A) × (slice_get xs k ≡ Some x)
there [] k h = absurd (omega (arith, h))
there (x ∷ xs) zero h = (x, refl)
there (x ∷ xs) (suc k) h = there xs k (omega (arith, h))
