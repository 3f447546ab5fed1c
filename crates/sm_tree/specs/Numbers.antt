-- The texts of JSON numbers (RFC 8259, section 6), and the tree that each stands for: an integer where
-- the text has no fraction and no exponent and an `i64` holds it, else the text itself.
use Rattle.std.specs.Prelude.{◌≡◌, ℕ, ◌≤◌, ◌⊎◌, FitsSigned, List, [], ◌∷◌, ◌++◌}
use Rattle.std.specs.Str.Parse.{IsNumeral, signed_digits_value, without_leading_sign}
use Rattle.std.specs.Int.{w64}
use Rattle.sm_bytes.specs.Ascii.{plus, minus, full_stop, digit_zero, digit_one, digit_nine, capital_e, small_e}
use Rattle.sm_tree.specs.Node.{Node, null, bool, int, number, text, bytes, tag, opaque, list, object}

-- DIGIT = %x30-39
abbrev pub IsDigit : ℕ → Type 0
IsDigit c = (digit_zero ≤ c) × (c ≤ digit_nine)

-- *DIGIT
abbrev pub AreDigits : List ℕ → Type 0
AreDigits [] = Unit {0}
AreDigits (c ∷ cs) = IsDigit c × AreDigits cs

-- [ minus ]
abbrev pub IsMinus : List ℕ → Type 0
IsMinus t = (t ≡ []) ⊎ (t ≡ minus ∷ [])

-- int = zero / ( digit1-9 *DIGIT )
abbrev pub IsInt : List ℕ → Type 0
IsInt t = (t ≡ digit_zero ∷ []) ⊎ ((c : ℕ) × (ds : List ℕ) × (t ≡ c ∷ ds) × (digit_one ≤ c) × (c ≤ digit_nine) × AreDigits ds)

-- 1*DIGIT
abbrev pub IsDigits : List ℕ → Type 0
IsDigits t = (c : ℕ) × (ds : List ℕ) × (t ≡ c ∷ ds) × IsDigit c × AreDigits ds

-- [ frac ], where frac = decimal-point 1*DIGIT
abbrev pub IsFraction : List ℕ → Type 0
IsFraction t = (t ≡ []) ⊎ ((ds : List ℕ) × (t ≡ full_stop ∷ ds) × IsDigits ds)

-- [ minus / plus ]
abbrev pub IsSign : List ℕ → Type 0
IsSign t = (t ≡ []) ⊎ ((t ≡ minus ∷ []) ⊎ (t ≡ plus ∷ []))

-- [ exp ], where exp = e [ minus / plus ] 1*DIGIT
abbrev pub IsExponent : List ℕ → Type 0
IsExponent t =
    (t ≡ []) ⊎ ((e : ℕ) × (sign ds : List ℕ) × (t ≡ e ∷ (sign ++ ds)) × ((e ≡ small_e) ⊎ (e ≡ capital_e)) × IsSign sign × IsDigits ds)

-- number = [ minus ] int [ frac ] [ exp ]
pub record IsNumber (t : List ℕ) : Type 0 where
  pub minus : List ℕ
  pub whole : List ℕ
  pub fraction : List ℕ
  pub exponent : List ℕ
  pub parts : t ≡ minus ++ (whole ++ (fraction ++ exponent))
  pub is_minus : IsMinus minus
  pub is_int : IsInt whole
  pub is_fraction : IsFraction fraction
  pub is_exponent : IsExponent exponent

-- of a number's text: it has no fraction and no exponent, and a signed word of 64 bits holds it
pub record IsInt64 (t : List ℕ) : Type 0 where
  pub is_integer : IsNumeral 10 (without_leading_sign t)
  pub in_range : FitsSigned w64 (signed_digits_value 10 t)

-- the tree that a number's text stands for; `-0` is the integer 0
abbrev pub NumberText : Node → List ℕ → Type 0
NumberText null t = ⊥
NumberText (bool b) t = ⊥
NumberText (int z) t = IsNumber t × IsInt64 t × (signed_digits_value 10 t ≡ z)
NumberText (number u) t = IsNumber t × (IsInt64 t → ⊥) × (t ≡ u)
NumberText (text u) t = ⊥
NumberText (bytes u) t = ⊥
NumberText (tag k n) t = ⊥
NumberText (opaque b) t = ⊥
NumberText (list ns) t = ⊥
NumberText (object ms) t = ⊥
