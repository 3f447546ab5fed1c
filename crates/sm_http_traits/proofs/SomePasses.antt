-- A test of a list, one element after the other.
use Rattle.std.proofs.Common.{◌≡◌, ◌<◌, ◌+◌, ◌||◌, ℕ, Bool, true, false, List, drop, get_or, length, sym, ap, ◌∙◌}
use Rattle.std.specs.List.{list_any}
use Rattle.std.proofs.lemmas.List.{drop_more}

module _ {X : Type 0} (p : X → Bool) (xs : List X) (i : ℕ) (d : X) (within : i < length xs)
    (so : list_any p (drop i xs) ≡ list_any p xs) where
  pub passes_here : p (get_or xs i d) ≡ true → true ≡ list_any p xs
  passes_here h = sym (ap (λ b. b || list_any p (drop (i + 1) xs)) h) ∙ sym (ap (list_any p) (drop_more xs i d within)) ∙ so

  pub passes_later : p (get_or xs i d) ≡ false → list_any p (drop (i + 1) xs) ≡ list_any p xs
  passes_later h = sym (ap (λ b. b || list_any p (drop (i + 1) xs)) h) ∙ sym (ap (list_any p) (drop_more xs i d within)) ∙ so
