-- What is read of notes by number.
use Rattle.std.proofs.Common.{◌≡◌, ℕ, zero, suc, List, [], ◌∷◌, map, get_or, Some, None, refl, ap}
use Rattle.std.specs.Prelude.{slice_get}

pub read_there : {X Y : Type 0} (f : X → Y) (xs : List X) (k : ℕ) (x : X) (y : Y) → slice_get xs k ≡ Some x → f x ≡ get_or (map f xs) k y
read_there f [] k x y e = absurd cc
read_there f (z ∷ xs) zero x y e = ap f (sym_some z x e)
  where
    sym_some : {X : Type 0} (z x : X) → Some z ≡ Some x → x ≡ z
    sym_some z x e = cc
read_there f (z ∷ xs) (suc k) x y e = read_there f xs k x y e

pub read_past : {X Y : Type 0} (f : X → Y) (xs : List X) (k : ℕ) (y : Y) → slice_get xs k ≡ None → y ≡ get_or (map f xs) k y
read_past f [] k y e = refl
read_past f (z ∷ xs) zero y e = absurd cc
read_past f (z ∷ xs) (suc k) y e = read_past f xs k y e
