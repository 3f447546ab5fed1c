-- Lists cut at a place.
use Rattle.std.proofs.Common.{◌≡◌, ◌<◌, ◌+◌, ℕ, List, ◌∷◌, ◌++◌, Some, length, take, drop, refl, sym, ap, ◌∙◌, arith}
use Rattle.std.specs.Prelude.{slice_get}
use Rattle.std.specs.FinMap as fin
use Rattle.std.proofs.Math.Seq.{get_or-append_seam}
use Rattle.std.proofs.lemmas.List.{drop_more, length-append, take-append-drop}
use Rattle.std.proofs.lemmas.Option.{get_or_from_slice_get, slice_get_read, slice_get_within}

-- a place of a list, and the parts before and behind it
pub parts_at : {X : Type 0} (xs : List X) (i : ℕ) (x : X) → slice_get xs i ≡ Some x → xs ≡ take i xs ++ x ∷ drop (i + 1) xs
parts_at xs i x at =
    let within = slice_get_within xs i x at in
    sym (take-append-drop i xs)
    ∙ ap (λ ys. take i xs ++ ys) (drop_more xs i x within ∙ ap (λ y. y ∷ drop (i + 1) xs) (get_or_from_slice_get xs i x x at))

pub seam_at : {X : Type 0} (before : List X) (x : X) (later : List X) → slice_get (before ++ x ∷ later) (length before) ≡ Some x
seam_at before x later =
    let long : length (before ++ x ∷ later) ≡ length before + (length later + 1) =
    length-append before (x ∷ later) ∙ ap (λ n. length before + n) (omega arith) in
    let within : length before < length (before ++ x ∷ later) = omega (arith, long) in
    slice_get_read (before ++ x ∷ later) (length (before ++ x ∷ later)) (length before) x refl within
    (sym (get_or-append_seam before x later x))
