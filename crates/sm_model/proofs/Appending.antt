-- Lists that a loop fills from another one: what has come and what the rest gives is the whole.
use Rattle.std.proofs.Common.{◌≡◌, ℕ, true, Bool, List, [], ◌∷◌, ◌++◌, map, length, get_or, ◌+◌, sym, ap, ◌∙◌, append_assoc}
use Rattle.std.specs.Prelude.{◌&&◌}
use Rattle.std.specs.List.{list_all}
use Rattle.std.proofs.lemmas.List.{map-append, get_or-append-add}
use Rattle.std.proofs.lemmas.List.Folds.{list_all-append}

-- one more element, which stands for the next one of the rest
pub one_more : {X Y : Type 0} (f : X → Y) (xs : List X) (x : X) (y : Y) (ys whole : List Y) → f x ≡ y → map f xs ++ y ∷ ys ≡ whole
    → map f (xs ++ x ∷ []) ++ ys ≡ whole
one_more f xs x y ys whole is h =
    ap (λ zs. zs ++ ys) (map-append f xs (x ∷ [])) ∙ append_assoc (map f xs) (f x ∷ []) ys
    ∙ ap (λ z. map f xs ++ z ∷ ys) is ∙ h

-- and one that passes a test
pub passes_more : {X : Type 0} (p : X → Bool) (xs : List X) (x : X) → list_all p xs ≡ true → p x ≡ true → list_all p (xs ++ x ∷ []) ≡ true
passes_more p xs x all one =
    list_all-append p xs (x ∷ []) ∙ ap (λ b. b && (p x && true)) all ∙ ap (λ b. b && true) one

-- the element behind others, counted from the first of all
pub behind : {X : Type 0} (before xs : List X) (first i : ℕ) (d : X) → length before ≡ first
    → get_or (before ++ xs) (first + i) d ≡ get_or xs i d
behind before xs first i d long = ap (λ n. get_or (before ++ xs) (n + i) d) (sym long) ∙ get_or-append-add before xs i d
