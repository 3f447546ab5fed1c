-- What the order of forms says of the values of the code.
use Rattle.std.proofs.Common.{◌≡◌, List, [], ◌∷◌, ◌++◌, map, refl, ap, ◌∙◌, append_assoc}
use Rattle.std.specs.declared.cmp.Ordering.{Ordering}
use Rattle.std.specs.Ordering.{ordering_then}
use Rattle.std.specs.Cmp.Lexicographic.{slice_cmp}
use Rattle.sm_tree.specs.steps.Canonical.{Word as AWord, word_cmp, form_cmp}
use Rattle.sm_tree.specs.declared.same.form.Word.{Word}
use Rattle.sm_tree.specs.contracts.same.form.WordOrd.TheImpl as words

-- an order of values that reads what they stand for
slice_cmp-map : {A B : Type 0} (f : A → B) (R : B → B → Ordering) (S : A → A → Ordering) → ((x y : A) → S x y ≡ R (f x) (f y))
    → (xs ys : List A)
    → slice_cmp S xs ys ≡ slice_cmp R (map f xs) (map f ys)
slice_cmp-map f R S h [] [] = refl
slice_cmp-map f R S h [] (y ∷ ys) = refl
slice_cmp-map f R S h (x ∷ xs) [] = refl
slice_cmp-map f R S h (x ∷ xs) (y ∷ ys) =
    ap (λ o. ordering_then o (slice_cmp S xs ys)) (h x y) ∙ ap (ordering_then (R (f x) (f y))) (slice_cmp-map f R S h xs ys)

pub compared : (xs ys : List Word) → slice_cmp words.ghosts.cmp xs ys ≡ form_cmp (map (λ (w : Word). (w.number, w.bytes.now)) xs)
    (map (λ (w : Word). (w.number, w.bytes.now)) ys)
compared = slice_cmp-map (λ (w : Word). (w.number, w.bytes.now)) word_cmp words.ghosts.cmp (λ x y. refl)

pub words_assoc : (us vs ws : List AWord) → (us ++ vs) ++ ws ≡ us ++ (vs ++ ws)
words_assoc us vs ws = append_assoc us vs ws
