-- Lists: their first entries and their rests, what is placed one after the other, and where one ends within another.
use Rattle.std.proofs.Common.{◌≡◌, ℕ, ◌-◌, ◌≤◌, List, [], ◌∷◌, ◌++◌, refl, sym, ap, ◌∙◌, arith, length, take, drop, append_assoc}
use Rattle.std.proofs.Common.{length-append}
use Rattle.std.proofs.lemmas.List.{length-drop, take_all}

-- of two equal lists
pub heads : {A : Type 0} (c d : A) (s r : List A) → c ∷ s ≡ d ∷ r → c ≡ d
heads c d s r e = cc

pub tails : {A : Type 0} (c d : A) (s r : List A) → c ∷ s ≡ d ∷ r → s ≡ r
tails c d s r e = cc

-- p and then w were placed behind a
pub placed_twice : {A : Type 0} (a between after p w : List A) → between ≡ a ++ p → after ≡ between ++ w → after ≡ a ++ (p ++ w)
placed_twice a between after p w first second = second ∙ ap (λ l. l ++ w) first ∙ append_assoc a p w

-- a rest is all that it has
pub rest_of : {A : Type 0} (xs : List A) (i : ℕ) → take (length xs - i) (drop i xs) ≡ drop i xs
rest_of xs i = take_all (length xs - i) (drop i xs) (omega (arith, length-drop i xs))

-- two ways to end one list, the one no longer than the other
pub cut_within : {A : Type 0} (w v r q : List A) → w ++ r ≡ v ++ q → length q ≤ length r → (u : List A) × (v ≡ w ++ u) × (r ≡ u ++ q)
cut_within [] v r q e few = (v, refl, e)
cut_within (c ∷ w) [] r q e few = absurd (omega (arith, ap length e, length-append w r))
cut_within (c ∷ w) (d ∷ v) r q e few =
    let (u, is, rest) = cut_within w v r q (tails c d (w ++ r) (v ++ q) e) few in
    (u, ap (λ x. d ∷ x) is ∙ ap (λ x. x ∷ (w ++ u)) (sym (heads c d (w ++ r) (v ++ q) e)), rest)
