-- What may still come of a number (RFC 8259, section 6), from each phase of reading it, and what a byte does to that.
use Rattle.std.specs.Prelude.{◌≡◌, ℕ, ◌⊎◌, List, [], ◌∷◌, ◌++◌, Option, Some, None}
use Rattle.sm_bytes.specs.Ascii.{plus, minus, full_stop, capital_e, small_e}
use Rattle.sm_tree.specs.Numbers.{IsDigit, AreDigits, IsInt, IsDigits, IsFraction, IsSign, IsExponent, IsNumber}
use Rattle.sm_tree.specs.declared.number.Phase.{Phase}
use Rattle.sm_tree.specs.declared.number.Phase.TheVariants.{Start, Minus, Zero, Whole, Point, Fraction, Exponent, ExponentSign}
use Rattle.sm_tree.specs.declared.number.Phase.TheVariants.{ExponentDigits}

-- the letter of an exponent, `e` or `E`
abbrev pub IsExponentMark : ℕ → Type 0
IsExponentMark c = (c ≡ small_e) ⊎ (c ≡ capital_e)

-- a byte that stands in numbers: a digit, `-`, `+`, `.`, `e` or `E`
abbrev pub IsNumberByte : ℕ → Type 0
IsNumberByte c = IsDigit c ⊎ ((c ≡ minus) ⊎ ((c ≡ plus) ⊎ ((c ≡ full_stop) ⊎ IsExponentMark c)))

abbrev pub AreNumberBytes : List ℕ → Type 0
AreNumberBytes [] = Unit {0}
AreNumberBytes (c ∷ cs) = IsNumberByte c × AreNumberBytes cs

-- a text of the first kind, and then one of the second
pub record Then (P Q : List ℕ → Type 0) (u : List ℕ) : Type 0 where
  pub first : List ℕ
  pub rest : List ℕ
  pub parts : u ≡ first ++ rest
  pub is_first : P first
  pub is_rest : Q rest

-- u completes a number that has come as far as the phase says
abbrev pub NumberTail : Phase → List ℕ → Type 0
NumberTail Start u = IsNumber u
NumberTail Minus u = Then IsInt (Then IsFraction IsExponent) u
NumberTail Zero u = Then IsFraction IsExponent u
NumberTail Whole u = Then AreDigits (Then IsFraction IsExponent) u
NumberTail Point u = Then IsDigits IsExponent u
NumberTail Fraction u = Then AreDigits IsExponent u
NumberTail Exponent u = Then IsSign IsDigits u
NumberTail ExponentSign u = IsDigits u
NumberTail ExponentDigits u = AreDigits u

-- a number at p that goes on with t is at q: the same texts complete it
pub record NumberLeads (p : Phase) (t : List ℕ) (q : Phase) : Type 0 where
  pub onward : (u : List ℕ) → NumberTail p (t ++ u) → NumberTail q u
  pub back : (u : List ℕ) → NumberTail q u → NumberTail p (t ++ u)

-- no number at p goes on with the byte c
abbrev pub NumberStops : Phase → ℕ → Type 0
NumberStops p c = (u : List ℕ) → NumberTail p (c ∷ u) → ⊥

-- what the byte c does to a number at p
abbrev pub IsNextPhase : Phase → ℕ → Option Phase → Type 0
IsNextPhase p c (Some q) = NumberLeads p (c ∷ []) q × IsNumberByte c
IsNextPhase p c None = NumberStops p c
