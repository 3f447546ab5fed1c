-- Lists of names, in which a name stands at most once.
use Rattle.std.specs.Prelude.{◌≡◌, ℕ, List, [], ◌∷◌}

-- none of these is the name
abbrev pub NoneIs : List ℕ → List (List ℕ) → Type 0
NoneIs name [] = Unit {0}
NoneIs name (k ∷ ks) = (k ≡ name → ⊥) × NoneIs name ks

-- no name stands twice
abbrev pub AllDiffer : List (List ℕ) → Type 0
AllDiffer [] = Unit {0}
AllDiffer (k ∷ ks) = NoneIs k ks × AllDiffer ks
