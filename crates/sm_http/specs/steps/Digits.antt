-- Digits without the zeros in front, by which numbers of any length are compared.
use Rattle.std.specs.Prelude.{ℕ, Bool, List, [], ◌∷◌, ◌==◌, if◌then◌else◌}
use Rattle.sm_bytes.specs.Ascii.{digit_zero}

abbrev pub is_zero_digit : ℕ → Bool
is_zero_digit b = b == digit_zero

abbrev pub significant : List ℕ → List ℕ
significant [] = []
significant (c ∷ cs) = if is_zero_digit c then significant cs else c ∷ cs
