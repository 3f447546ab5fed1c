-- Numbers of JSON by their value, whole or not: digits as one whole number, and the power of ten by which it is taken.
use Rattle.std.specs.Prelude.{ℕ, ◌==◌, ◌^◌, ℤ, pos, negsuc, ◌-ℤ◌, ◌*ℤ◌, neg_ℤ, int_le, int_rem, Bool, false, ◌||◌, cond}
use Rattle.std.specs.Prelude.{List, [], ◌∷◌, ◌++◌, length, Option, Some, None}
use Rattle.std.specs.Ordering.{int_eq}
use Rattle.std.specs.Str.Parse.{signed_digits_value}
use Rattle.sm_bytes.specs.Ascii.{full_stop, capital_e, small_e}
use Rattle.sm_tree.specs.Node.{Node, int, number}

-- the number digits * 10 ^ power
pub record Decimal : Type 0 where
  pub digits : ℤ
  pub power : ℤ

abbrev pub is_exponent_mark : ℕ → Bool
is_exponent_mark b = (b == capital_e) || (b == small_e)

abbrev pub is_point : ℕ → Bool
is_point b = b == full_stop

-- what stands before the first such byte, and what behind it
abbrev pub before_first : (ℕ → Bool) → List ℕ → List ℕ
before_first is [] = []
before_first is (b ∷ bs) = cond (is b) [] (b ∷ before_first is bs)

abbrev pub behind_first : (ℕ → Bool) → List ℕ → List ℕ
behind_first is [] = []
behind_first is (b ∷ bs) = cond (is b) bs (behind_first is bs)

-- the value of the text of a JSON number (RFC 8259, section 6)
abbrev pub fraction_of : List ℕ → List ℕ
fraction_of u = behind_first is_point (before_first is_exponent_mark u)

abbrev pub decimal_of : List ℕ → Decimal
decimal_of u = record {
  digits = signed_digits_value 10 (before_first is_point (before_first is_exponent_mark u) ++ fraction_of u);
  power = signed_digits_value 10 (behind_first is_exponent_mark u) -ℤ pos (length (fraction_of u));
}

-- the value of a tree, where it is a number
abbrev pub value_of : Node → Option Decimal
value_of (int z) = Some (record { digits = z; power = pos 0 })
value_of (number u) = Some (decimal_of u)
value_of n = None

-- how far a number is above zero, at least
abbrev pub above_zero : ℤ → ℕ
above_zero (pos n) = n
above_zero (negsuc n) = 0

-- the digits of a number, with the zeros behind them that bring it to the other's power where that is less
abbrev pub brought_to : ℤ → Decimal → ℤ
brought_to power d = d.digits *ℤ pos (10 ^ above_zero (d.power -ℤ power))

abbrev pub decimal_le : Decimal → Decimal → Bool
decimal_le d e = int_le (brought_to e.power d) (brought_to d.power e)

abbrev pub values_le : Option Decimal → Option Decimal → Bool
values_le None e = false
values_le (Some d) None = false
values_le (Some d) (Some e) = decimal_le d e

-- both are numbers, and the first is no greater than the second
abbrev pub number_le : Node → Node → Bool
number_le n m = values_le (value_of n) (value_of m)

-- it has no fractional part
abbrev pub is_whole : Decimal → Bool
is_whole d = int_eq (int_rem d.digits (pos (10 ^ above_zero (neg_ℤ d.power)))) (pos 0)
