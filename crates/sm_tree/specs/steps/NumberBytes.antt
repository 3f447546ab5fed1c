-- Bytes of numbers in some places, for proofs alone.
use Rattle.std.specs.Prelude.{◌≡◌, ℕ, ◌⊎◌, Bool, ◌&&◌, nat_le}
use Rattle.sm_bytes.specs.Ascii.{minus, digit_zero, digit_nine}
use Rattle.sm_tree.specs.Numbers.{IsDigit}
use Rattle.sm_tree.specs.declared.number.Phase.{Phase}
use Rattle.sm_tree.specs.declared.number.Phase.TheVariants.{Start, Minus, Zero, Whole, Point, Fraction, Exponent, ExponentSign}
use Rattle.sm_tree.specs.declared.number.Phase.TheVariants.{ExponentDigits}

-- the test of a digit
abbrev pub is_digit : ℕ → Bool
is_digit c = nat_le digit_zero c && nat_le c digit_nine

-- a byte that a number begins with: a digit or `-`
abbrev pub IsNumberStart : ℕ → Type 0
IsNumberStart c = IsDigit c ⊎ (c ≡ minus)

-- the phases in which one more digit changes nothing
abbrev pub TakesDigits : Phase → Type 0
TakesDigits Start = ⊥
TakesDigits Minus = ⊥
TakesDigits Zero = ⊥
TakesDigits Whole = Unit {0}
TakesDigits Point = ⊥
TakesDigits Fraction = Unit {0}
TakesDigits Exponent = ⊥
TakesDigits ExponentSign = ⊥
TakesDigits ExponentDigits = Unit {0}
