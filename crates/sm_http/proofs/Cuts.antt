-- Cuts of lists of bytes.
use Rattle.std.proofs.Common.{◌≡◌, ℕ, ◌+◌, ◌-◌, ◌≤◌, List, [], ◌∷◌, ◌++◌, length, take, drop, refl, ap, ◌∙◌, arith}
use Rattle.std.proofs.lemmas.List.{length-append, take_all, length-drop}
use Rattle.std.proofs.Math.Seq.{take-append-add}

-- one cut at one length
pub same_cut : (xs ys r q : List ℕ) → length xs ≡ length ys → xs ++ r ≡ ys ++ q → (xs ≡ ys) × (r ≡ q)
same_cut [] [] r q n e = (refl, e)
same_cut [] (y ∷ ys) r q n e = absurd (omega arith)
same_cut (x ∷ xs) [] r q n e = absurd (omega arith)
same_cut (x ∷ xs) (y ∷ ys) r q n e =
    let tails = same_cut xs ys r q (omega arith) (cc) in
    (cc, tails.1)

-- a cut behind a prefix that lies within it
pub cut_behind : (limit : ℕ) (bytes xs ys : List ℕ) → bytes ≡ xs ++ ys → length bytes ≤ limit + length ys
    → take limit bytes ≡ xs ++ take (limit - length xs) ys
cut_behind limit bytes xs ys e within =
    let len : length bytes ≡ length xs + length ys = ap length e ∙ length-append xs ys in
    let fits : limit ≡ length xs + (limit - length xs) = omega arith in
    ap (take limit) e ∙ ap (λ n. take n (xs ++ ys)) fits ∙ take-append-add xs ys (limit - length xs)

-- nothing is no prefix and more
pub left_empty : (xs ys : List ℕ) → [] ≡ xs ++ ys → [] ≡ xs
left_empty [] ys e = refl
left_empty (x ∷ xs) ys e = absurd (cc)

pub right_empty : (xs ys : List ℕ) → [] ≡ xs ++ ys → [] ≡ ys
right_empty [] ys e = e
right_empty (x ∷ xs) ys e = absurd (cc)

-- the rest of some bytes, as a slice of it is seen
pub rest_of : (bytes : List ℕ) (at : ℕ) → take (length bytes - at) (drop at bytes) ≡ drop at bytes
rest_of bytes at = take_all (length bytes - at) (drop at bytes) (omega (arith, length-drop at bytes))
