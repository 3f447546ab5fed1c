-- Keys that differ from number to number.
use Rattle.std.specs.Prelude.{◌<◌, ℕ, List}

-- of the numbers below this one no two have one key
abbrev pub AreApart : (ℕ → List ℕ → Type 0) → ℕ → Type 0
AreApart IsKey n = (j k : ℕ) → j < k → k < n → (key : List ℕ) → IsKey j key → IsKey k key → ⊥
