-- Which phase a byte leads to, as a table, and that the texts which complete a number go along with it.
use Rattle.std.proofs.Common.{◌≡◌, ℕ, ◌≤◌, ◌⊎◌, inl, inr, Bool, true, false, cond, ne_eqb, ◌==◌, ◌||◌, List, [], ◌∷◌, ◌++◌, Option, Some}
use Rattle.std.proofs.Common.{None, refl, sym, ap, subst, ◌∙◌, arith}
use Rattle.std.proofs.lemmas.Bool.{cond-true, cond-false}
use Rattle.std.proofs.lemmas.Bool.Decides.{nat_tests}
use Rattle.sm_tree.specs.Numbers.{IsDigit, AreDigits, IsMinus, IsInt, IsDigits, IsFraction, IsSign, IsExponent}
use Rattle.sm_tree.specs.NumberTail.{IsExponentMark, IsNumberByte, Then, NumberTail, NumberLeads, NumberStops, IsNextPhase}
use Rattle.sm_tree.specs.steps.NumberBytes.{is_digit}
use Rattle.sm_tree.specs.declared.number.Phase.{Phase}
use Rattle.sm_tree.specs.declared.number.Phase.TheVariants.{Start, Minus, Zero, Whole, Point, Fraction, Exponent, ExponentSign}
use Rattle.sm_tree.specs.declared.number.Phase.TheVariants.{ExponentDigits}
use Rattle.sm_tree.proofs.NumberRuns.{digits_lead}
use Rattle.sm_tree.proofs.NumberParts.{then_split, then_none, then_more, then_first, then_rest, minus_then, then_minus, no_int, no_digits}
use Rattle.sm_tree.proofs.NumberParts.{digits_begin, digits_more, int_begins, fraction_begins, exponent_begins, exponent_more, sign_begins}
use Rattle.sm_tree.proofs.NumberParts.{minus_begins}

-- the table

abbrev pub is_letter : ℕ → Bool
is_letter c = (c == 101) || (c == 69)

abbrev pub after_minus : ℕ → Option Phase
after_minus c = cond (c == 48) (Some Zero) (cond (is_digit c) (Some Whole) None)

abbrev pub after_zero : ℕ → Option Phase
after_zero c = cond (c == 46) (Some Point) (cond (is_letter c) (Some Exponent) None)

abbrev pub next_of : Phase → ℕ → Option Phase
next_of Start c = cond (c == 45) (Some Minus) (after_minus c)
next_of Minus c = after_minus c
next_of Zero c = after_zero c
next_of Whole c = cond (is_digit c) (Some Whole) (after_zero c)
next_of Point c = cond (is_digit c) (Some Fraction) None
next_of Fraction c = cond (is_digit c) (Some Fraction) (cond (is_letter c) (Some Exponent) None)
next_of Exponent c = cond ((c == 43) || (c == 45)) (Some ExponentSign) (cond (is_digit c) (Some ExponentDigits) None)
next_of ExponentSign c = cond (is_digit c) (Some ExponentDigits) None
next_of ExponentDigits c = cond (is_digit c) (Some ExponentDigits) None

-- its tests

pub digit_test : (c : ℕ) → IsDigit c → is_digit c ≡ true
digit_test c d = grind (arith, nat_tests)

pub test_digit : (c : ℕ) → is_digit c ≡ true → IsDigit c
test_digit c e = grind (arith, nat_tests)

test_letter : (c : ℕ) → is_letter c ≡ true → IsExponentMark c
test_letter c e = grind (arith, nat_tests)

test_sign : (c : ℕ) → ((c == 43) || (c == 45)) ≡ true → (c ≡ 45) ⊎ (c ≡ 43)
test_sign c e = grind (arith, nat_tests)

test_equal : (c d : ℕ) → (c == d) ≡ true → c ≡ d
test_equal c d e = grind (arith, nat_tests)

no_sign_test : (c : ℕ) → IsDigit c → ((c == 43) || (c == 45)) ≡ false
no_sign_test c d = grind (arith, nat_tests)

-- no other byte than `-` leads from `Start` to where `Minus` leads
no_minus : (c : ℕ) (q : Phase) → after_minus c ≡ Some q → (c == 45) ≡ false
no_minus c q e = ne_eqb c 45 (λ is. absurd (none_is_some q (sym (ap after_minus is) ∙ e)))
  where
    none_is_some : (q : Phase) → None ≡ Some q → ⊥
    none_is_some q e = cc

-- an arc of the table: its test held, or a later one's arc was taken
arc : (R : Phase → Type 0) (b : Bool) (p q : Phase) (other : Option Phase) → cond b (Some p) other ≡ Some q → (b ≡ true → R p)
    → (b ≡ false → other ≡ Some q → R q) → R q
arc R true p q other e here later = let same : p ≡ q = cc in subst R same (here refl)
arc R false p q other e here later = later refl e

no_arc : (q : Phase) → None ≡ Some q → ⊥
no_arc q e = cc

last_arc : (R : Phase → Type 0) (b : Bool) (p q : Phase) → cond b (Some p) None ≡ Some q → (b ≡ true → R p) → R q
last_arc R b p q e here = arc R b p q None e here (λ _ none. absurd (no_arc q none))

-- onward: some arc is taken, and the rest completes what it leads to

abbrev Goes : Option Phase → List ℕ → Type 0
Goes r u = (q : Phase) × (r ≡ Some q) × NumberTail q u

goes_along : (r s : Option Phase) (u : List ℕ) → r ≡ s → Goes s u → Goes r u
goes_along r s u e h = (h.0, e ∙ h.1, h.2)

from_minus : (c : ℕ) (u : List ℕ) → NumberTail Minus (c ∷ u) → Goes (after_minus c) u
from_minus c u t = begun (then_split IsInt (Then IsFraction IsExponent) c u t)
  where
    by_first : (t : Then (λ s. IsInt (c ∷ s)) (Then IsFraction IsExponent) u)
        → ((c ≡ 48) × (t.first ≡ [])) ⊎ ((49 ≤ c) × (c ≤ 57) × AreDigits t.first) → Goes (after_minus c) u
    by_first t (inl (zero, ends)) =
        (Zero, grind (arith, nat_tests), subst (Then IsFraction IsExponent) (sym (t.parts ∙ ap (λ s. s ++ t.rest) ends)) t.is_rest)
    by_first t (inr (low, high, digits)) = (
      Whole,
      grind (arith, nat_tests),
      record { first = t.first; rest = t.rest; parts = t.parts; is_first = digits; is_rest = t.is_rest },
    )

    begun : (IsInt [] × Then IsFraction IsExponent (c ∷ u)) ⊎ Then (λ s. IsInt (c ∷ s)) (Then IsFraction IsExponent) u
        → Goes (after_minus c) u
    begun (inl h) = absurd (no_int h.0)
    begun (inr t) = by_first t (int_begins c t.first t.is_first)

from_exponent_letter : (c : ℕ) (u : List ℕ) → IsExponent (c ∷ u) → Goes (cond (is_letter c) (Some Exponent) None) u
from_exponent_letter c u h = let parts = exponent_begins c u h in (Exponent, letter_goes c parts.0, parts.1)
  where
    letter_goes : (c : ℕ) → IsExponentMark c → cond (is_letter c) (Some Exponent) None ≡ Some Exponent
    letter_goes c (inl e) = subst (λ d. cond (is_letter d) (Some Exponent) None ≡ Some Exponent) (sym e) refl
    letter_goes c (inr e) = subst (λ d. cond (is_letter d) (Some Exponent) None ≡ Some Exponent) (sym e) refl

-- a letter is no point and no digit, so its arc is the one of both tables
letter_at_zero : (c : ℕ) → IsExponentMark c → after_zero c ≡ cond (is_letter c) (Some Exponent) None
letter_at_zero c (inl e) = subst (λ d. after_zero d ≡ cond (is_letter d) (Some Exponent) None) (sym e) refl
letter_at_zero c (inr e) = subst (λ d. after_zero d ≡ cond (is_letter d) (Some Exponent) None) (sym e) refl

from_zero : (c : ℕ) (u : List ℕ) → NumberTail Zero (c ∷ u) → Goes (after_zero c) u
from_zero c u t = begun (then_split IsFraction IsExponent c u t)
  where
    point : (t : Then (λ s. IsFraction (c ∷ s)) IsExponent u) → (c ≡ 46) → Goes (after_zero c) u
    point t e = (
      Point,
      subst (λ d. after_zero d ≡ Some Point) (sym e) refl,
      then_first (λ s. IsFraction (c ∷ s)) IsDigits IsExponent u (λ s h. (fraction_begins c s h).1) t,
    )

    begun : (IsFraction [] × IsExponent (c ∷ u)) ⊎ Then (λ s. IsFraction (c ∷ s)) IsExponent u → Goes (after_zero c) u
    begun (inl h) = goes_along _ _ u (letter_at_zero c (exponent_begins c u h.1).0) (from_exponent_letter c u h.1)
    begun (inr t) = point t (fraction_begins c t.first t.is_first).0

-- what begins with no digit takes the other arc
no_digit_at_zero : (c : ℕ) (u : List ℕ) → NumberTail Zero (c ∷ u) → is_digit c ≡ false
no_digit_at_zero c u t = begun (then_split IsFraction IsExponent c u t)
  where
    letter : IsExponentMark c → is_digit c ≡ false
    letter (inl e) = subst (λ d. is_digit d ≡ false) (sym e) refl
    letter (inr e) = subst (λ d. is_digit d ≡ false) (sym e) refl

    begun : (IsFraction [] × IsExponent (c ∷ u)) ⊎ Then (λ s. IsFraction (c ∷ s)) IsExponent u → is_digit c ≡ false
    begun (inl h) = letter (exponent_begins c u h.1).0
    begun (inr t) = subst (λ d. is_digit d ≡ false) (sym (fraction_begins c t.first t.is_first).0) refl

digit_arc : (c : ℕ) (q : Phase) (other : Option Phase) (u : List ℕ) → IsDigit c → NumberTail q u → Goes (cond (is_digit c) (Some q) other) u
digit_arc c q other u d t = (q, cond-true (is_digit c) (Some q) other (digit_test c d), t)

other_arc : (b : Bool) (q : Phase) (other : Option Phase) (u : List ℕ) → b ≡ false → Goes other u → Goes (cond b (Some q) other) u
other_arc b q other u e h = goes_along _ _ u (cond-false b (Some q) other e) h

from_whole : (c : ℕ) (u : List ℕ) → NumberTail Whole (c ∷ u) → Goes (next_of Whole c) u
from_whole c u t = begun (then_split AreDigits (Then IsFraction IsExponent) c u t)
  where
    begun : (AreDigits [] × Then IsFraction IsExponent (c ∷ u)) ⊎ Then (λ s. AreDigits (c ∷ s)) (Then IsFraction IsExponent) u
        → Goes (next_of Whole c) u
    begun (inl h) = other_arc (is_digit c) Whole (after_zero c) u (no_digit_at_zero c u h.1) (from_zero c u h.1)
    begun (inr t) = digit_arc c Whole (after_zero c) u t.is_first.0
        (then_first (λ s. AreDigits (c ∷ s)) AreDigits (Then IsFraction IsExponent) u (λ s h. h.1) t)

from_point : (c : ℕ) (u : List ℕ) → NumberTail Point (c ∷ u) → Goes (next_of Point c) u
from_point c u t = begun (then_split IsDigits IsExponent c u t)
  where
    begun : (IsDigits [] × IsExponent (c ∷ u)) ⊎ Then (λ s. IsDigits (c ∷ s)) IsExponent u → Goes (next_of Point c) u
    begun (inl h) = absurd (no_digits h.0)
    begun (inr t) = digit_arc c Fraction None u (digits_begin c t.first t.is_first).0
        (then_first (λ s. IsDigits (c ∷ s)) AreDigits IsExponent u (λ s h. (digits_begin c s h).1) t)

from_fraction : (c : ℕ) (u : List ℕ) → NumberTail Fraction (c ∷ u) → Goes (next_of Fraction c) u
from_fraction c u t = begun (then_split AreDigits IsExponent c u t)
  where
    no_digit : IsExponentMark c → is_digit c ≡ false
    no_digit (inl e) = subst (λ d. is_digit d ≡ false) (sym e) refl
    no_digit (inr e) = subst (λ d. is_digit d ≡ false) (sym e) refl

    begun : (AreDigits [] × IsExponent (c ∷ u)) ⊎ Then (λ s. AreDigits (c ∷ s)) IsExponent u → Goes (next_of Fraction c) u
    begun (inl h) = other_arc (is_digit c) Fraction (cond (is_letter c) (Some Exponent) None) u (no_digit (exponent_begins c u h.1).0)
        (from_exponent_letter c u h.1)
    begun (inr t) = digit_arc c Fraction (cond (is_letter c) (Some Exponent) None) u t.is_first.0
        (then_first (λ s. AreDigits (c ∷ s)) AreDigits IsExponent u (λ s h. h.1) t)

from_exponent : (c : ℕ) (u : List ℕ) → NumberTail Exponent (c ∷ u) → Goes (next_of Exponent c) u
from_exponent c u t = begun (then_split IsSign IsDigits c u t)
  where
    digit : IsDigits (c ∷ u) → Goes (next_of Exponent c) u
    digit h = let parts = digits_begin c u h in let no_sign : ((c == 43) || (c == 45)) ≡ false = no_sign_test c parts.0 in
        other_arc ((c == 43) || (c == 45)) ExponentSign (cond (is_digit c) (Some ExponentDigits) None) u no_sign
        (digit_arc c ExponentDigits None u parts.0 parts.1)

    sign : (c ≡ 45) ⊎ (c ≡ 43) → IsDigits u → Goes (next_of Exponent c) u
    sign (inl e) h = (ExponentSign, subst (λ d. next_of Exponent d ≡ Some ExponentSign) (sym e) refl, h)
    sign (inr e) h = (ExponentSign, subst (λ d. next_of Exponent d ≡ Some ExponentSign) (sym e) refl, h)

    begun : (IsSign [] × IsDigits (c ∷ u)) ⊎ Then (λ s. IsSign (c ∷ s)) IsDigits u → Goes (next_of Exponent c) u
    begun (inl h) = digit h.1
    begun (inr t) = sign (sign_begins c t.first t.is_first).0 (then_rest (λ s. IsSign (c ∷ s)) IsDigits u (λ s h. (sign_begins c s h).1) t)

from_start : (c : ℕ) (u : List ℕ) → NumberTail Start (c ∷ u) → Goes (next_of Start c) u
from_start c u t = begun (then_split IsMinus (NumberTail Minus) c u (minus_then (c ∷ u) t))
  where
    unsigned : NumberTail Minus (c ∷ u) → Goes (next_of Start c) u
    unsigned t = let h = from_minus c u t in other_arc (c == 45) Minus (after_minus c) u (no_minus c h.0 h.1) h

    begun : (IsMinus [] × NumberTail Minus (c ∷ u)) ⊎ Then (λ s. IsMinus (c ∷ s)) (NumberTail Minus) u → Goes (next_of Start c) u
    begun (inl h) = unsigned h.1
    begun (inr t) = (
      Minus,
      subst (λ d. next_of Start d ≡ Some Minus) (sym (minus_begins c t.first t.is_first).0) refl,
      then_rest (λ s. IsMinus (c ∷ s)) (NumberTail Minus) u (λ s h. (minus_begins c s h).1) t,
    )

pub goes_on : (p : Phase) (c : ℕ) (u : List ℕ) → NumberTail p (c ∷ u) → Goes (next_of p c) u
goes_on Start c u t = from_start c u t
goes_on Minus c u t = from_minus c u t
goes_on Zero c u t = from_zero c u t
goes_on Whole c u t = from_whole c u t
goes_on Point c u t = from_point c u t
goes_on Fraction c u t = from_fraction c u t
goes_on Exponent c u t = from_exponent c u t
goes_on ExponentSign c u t = let parts = digits_begin c u t in digit_arc c ExponentDigits None u parts.0 parts.1
goes_on ExponentDigits c u t = digit_arc c ExponentDigits None u t.0 t.1

-- back: the byte before a completion of what it leads to completes a number

abbrev Comes : Phase → ℕ → List ℕ → Phase → Type 0
Comes p c u q = NumberTail q u → NumberTail p (c ∷ u)

digit_first : (Q : List ℕ → Type 0) (c : ℕ) (u : List ℕ) → is_digit c ≡ true → Then AreDigits Q u → Then AreDigits Q (c ∷ u)
digit_first Q c u d t = then_more AreDigits Q c u (then_first AreDigits (λ s. AreDigits (c ∷ s)) Q u (λ s h. (test_digit c d, h)) t)

to_minus : (c : ℕ) (q : Phase) (u : List ℕ) → after_minus c ≡ Some q → Comes Minus c u q
to_minus c q u e = arc (Comes Minus c u) (c == 48) Zero q (cond (is_digit c) (Some Whole) None) e
    (λ zero t. record { first = c ∷ []; rest = u; parts = refl; is_first = inl (ap (λ d. d ∷ []) (test_equal c 48 zero)); is_rest = t })
    (λ other e. last_arc (Comes Minus c u) (is_digit c) Whole q e
    (λ digit t. then_more IsInt (Then IsFraction IsExponent) c u
    (then_first AreDigits (λ s. IsInt (c ∷ s)) (Then IsFraction IsExponent) u
    (λ s h. inr (c, s, refl, above_zero c digit other, (test_digit c digit).1, h)) t)))
  where
    above_zero : (c : ℕ) → is_digit c ≡ true → (c == 48) ≡ false → 49 ≤ c
    above_zero c digit other = grind (arith, nat_tests)

to_letter : (c : ℕ) (q : Phase) (u : List ℕ) → cond (is_letter c) (Some Exponent) None ≡ Some q → NumberTail q u → IsExponent (c ∷ u)
to_letter c q u e = last_arc (λ q. NumberTail q u → IsExponent (c ∷ u)) (is_letter c) Exponent q e
    (λ letter t. exponent_more c u (test_letter c letter) t)

to_zero : (c : ℕ) (q : Phase) (u : List ℕ) → after_zero c ≡ Some q → Comes Zero c u q
to_zero c q u e = arc (Comes Zero c u) (c == 46) Point q (cond (is_letter c) (Some Exponent) None) e
    (λ point t. then_more IsFraction IsExponent c u
    (then_first IsDigits (λ s. IsFraction (c ∷ s)) IsExponent u (λ s h. inr (s, ap (λ d. d ∷ s) (test_equal c 46 point), h)) t))
    (λ _ e t. then_none IsFraction IsExponent (c ∷ u) (inl refl) (to_letter c q u e t))

to_whole : (c : ℕ) (q : Phase) (u : List ℕ) → next_of Whole c ≡ Some q → Comes Whole c u q
to_whole c q u e = arc (Comes Whole c u) (is_digit c) Whole q (after_zero c) e
    (λ digit t. digit_first (Then IsFraction IsExponent) c u digit t)
    (λ _ e t. then_none AreDigits (Then IsFraction IsExponent) (c ∷ u) tt (to_zero c q u e t))

to_point : (c : ℕ) (q : Phase) (u : List ℕ) → next_of Point c ≡ Some q → Comes Point c u q
to_point c q u e = last_arc (Comes Point c u) (is_digit c) Fraction q e
    (λ digit t. then_more IsDigits IsExponent c u
    (then_first AreDigits (λ s. IsDigits (c ∷ s)) IsExponent u (λ s h. digits_more c s (test_digit c digit) h) t))

to_fraction : (c : ℕ) (q : Phase) (u : List ℕ) → next_of Fraction c ≡ Some q → Comes Fraction c u q
to_fraction c q u e = arc (Comes Fraction c u) (is_digit c) Fraction q (cond (is_letter c) (Some Exponent) None) e
    (λ digit t. digit_first IsExponent c u digit t)
    (λ _ e t. then_none AreDigits IsExponent (c ∷ u) tt (to_letter c q u e t))

to_exponent : (c : ℕ) (q : Phase) (u : List ℕ) → next_of Exponent c ≡ Some q → Comes Exponent c u q
to_exponent c q u e = arc (Comes Exponent c u) ((c == 43) || (c == 45)) ExponentSign q (cond (is_digit c) (Some ExponentDigits) None) e
    (λ sign t. record { first = c ∷ []; rest = u; parts = refl; is_first = signed (test_sign c sign); is_rest = t })
    (λ _ e. last_arc (Comes Exponent c u) (is_digit c) ExponentDigits q e
    (λ digit t. then_none IsSign IsDigits (c ∷ u) (inl refl) (digits_more c u (test_digit c digit) t)))
  where
    signed : (c ≡ 45) ⊎ (c ≡ 43) → IsSign (c ∷ [])
    signed (inl e) = inr (inl (ap (λ d. d ∷ []) e))
    signed (inr e) = inr (inr (ap (λ d. d ∷ []) e))

to_start : (c : ℕ) (q : Phase) (u : List ℕ) → next_of Start c ≡ Some q → Comes Start c u q
to_start c q u e = arc (Comes Start c u) (c == 45) Minus q (after_minus c) e
    (λ minus t. then_minus (c ∷ u)
    (record { first = c ∷ []; rest = u; parts = refl; is_first = inr (ap (λ d. d ∷ []) (test_equal c 45 minus)); is_rest = t }))
    (λ _ e t. then_minus (c ∷ u) (then_none IsMinus (NumberTail Minus) (c ∷ u) (inl refl) (to_minus c q u e t)))

pub comes_from : (p : Phase) (c : ℕ) (q : Phase) (u : List ℕ) → next_of p c ≡ Some q → NumberTail q u → NumberTail p (c ∷ u)
comes_from Start c q u e = to_start c q u e
comes_from Minus c q u e = to_minus c q u e
comes_from Zero c q u e = to_zero c q u e
comes_from Whole c q u e = to_whole c q u e
comes_from Point c q u e = to_point c q u e
comes_from Fraction c q u e = to_fraction c q u e
comes_from Exponent c q u e = to_exponent c q u e
comes_from ExponentSign c q u e = last_arc (Comes ExponentSign c u) (is_digit c) ExponentDigits q e
    (λ digit t. digits_more c u (test_digit c digit) t)
comes_from ExponentDigits c q u e = last_arc (Comes ExponentDigits c u) (is_digit c) ExponentDigits q e (λ digit t. (test_digit c digit, t))

-- both, for the table as it stands in the code

pub leads_next : (p : Phase) (c : ℕ) (q : Phase) → next_of p c ≡ Some q → NumberLeads p (c ∷ []) q
leads_next p c q e = record {
  onward = λ u t. let h = goes_on p c u t in arrives h.0 u (sym e ∙ h.1) h.2;
  back = λ u t. comes_from p c q u e t;
}
  where
    arrives : (r : Phase) (u : List ℕ) → Some q ≡ Some r → NumberTail r u → NumberTail q u
    arrives r u e t = let same : r ≡ q = cc in subst (λ x. NumberTail x u) same t

pub stops_next : (p : Phase) (c : ℕ) → next_of p c ≡ None → NumberStops p c
stops_next p c e u t = let h = goes_on p c u t in no_arc h.0 (sym e ∙ h.1)

-- the table has arcs for the bytes of numbers alone

digit_byte : (c : ℕ) → is_digit c ≡ true → IsNumberByte c
digit_byte c e = inl (test_digit c e)

letter_byte : (c : ℕ) (q : Phase) → cond (is_letter c) (Some Exponent) None ≡ Some q → IsNumberByte c
letter_byte c q e = last_arc (λ _. IsNumberByte c) (is_letter c) Exponent q e (λ letter. inr (inr (inr (inr (test_letter c letter)))))

zero_byte : (c : ℕ) (q : Phase) → after_zero c ≡ Some q → IsNumberByte c
zero_byte c q e = arc (λ _. IsNumberByte c) (c == 46) Point q (cond (is_letter c) (Some Exponent) None) e
    (λ point. inr (inr (inr (inl (test_equal c 46 point))))) (λ _ e. letter_byte c q e)

minus_byte : (c : ℕ) (q : Phase) → after_minus c ≡ Some q → IsNumberByte c
minus_byte c q e = arc (λ _. IsNumberByte c) (c == 48) Zero q (cond (is_digit c) (Some Whole) None) e
    (λ zero. zero_is_digit c (test_equal c 48 zero)) (λ _ e. last_arc (λ _. IsNumberByte c) (is_digit c) Whole q e (digit_byte c))
  where
    zero_is_digit : (c : ℕ) → c ≡ 48 → IsNumberByte c
    zero_is_digit c e = inl (omega arith, omega arith)

sign_byte : (c : ℕ) → ((c == 43) || (c == 45)) ≡ true → IsNumberByte c
sign_byte c e = either (test_sign c e)
  where
    either : (c ≡ 45) ⊎ (c ≡ 43) → IsNumberByte c
    either (inl e) = inr (inl e)
    either (inr e) = inr (inr (inl e))

pub next_byte : (p : Phase) (c : ℕ) (q : Phase) → next_of p c ≡ Some q → IsNumberByte c
next_byte Start c q e = arc (λ _. IsNumberByte c) (c == 45) Minus q (after_minus c) e (λ minus. inr (inl (test_equal c 45 minus)))
    (λ _ e. minus_byte c q e)
next_byte Minus c q e = minus_byte c q e
next_byte Zero c q e = zero_byte c q e
next_byte Whole c q e = arc (λ _. IsNumberByte c) (is_digit c) Whole q (after_zero c) e (digit_byte c) (λ _ e. zero_byte c q e)
next_byte Point c q e = last_arc (λ _. IsNumberByte c) (is_digit c) Fraction q e (digit_byte c)
next_byte Fraction c q e = arc (λ _. IsNumberByte c) (is_digit c) Fraction q (cond (is_letter c) (Some Exponent) None) e (digit_byte c)
    (λ _ e. letter_byte c q e)
next_byte Exponent c q e = arc (λ _. IsNumberByte c) ((c == 43) || (c == 45)) ExponentSign q
    (cond (is_digit c) (Some ExponentDigits) None) e (sign_byte c)
    (λ _ e. last_arc (λ _. IsNumberByte c) (is_digit c) ExponentDigits q e (digit_byte c))
next_byte ExponentSign c q e = last_arc (λ _. IsNumberByte c) (is_digit c) ExponentDigits q e (digit_byte c)
next_byte ExponentDigits c q e = last_arc (λ _. IsNumberByte c) (is_digit c) ExponentDigits q e (digit_byte c)

pub next_is : (p : Phase) (c : ℕ) (r : Option Phase) → next_of p c ≡ r → IsNextPhase p c r
next_is p c (Some q) e = (leads_next p c q e, next_byte p c q e)
next_is p c None e = stops_next p c e

-- digits behind digits change no phase

pub whole_stays : (ds : List ℕ) → AreDigits ds → NumberLeads Whole ds Whole
whole_stays ds h = digits_lead Whole ds (λ c d. leads_next Whole c Whole
    (cond-true (is_digit c) (Some Whole) (after_zero c) (digit_test c d))) h

pub fraction_stays : (ds : List ℕ) → AreDigits ds → NumberLeads Fraction ds Fraction
fraction_stays ds h = digits_lead Fraction ds (λ c d. leads_next Fraction c Fraction
    (cond-true (is_digit c) (Some Fraction) (cond (is_letter c) (Some Exponent) None) (digit_test c d))) h

pub exponent_stays : (ds : List ℕ) → AreDigits ds → NumberLeads ExponentDigits ds ExponentDigits
exponent_stays ds h = digits_lead ExponentDigits ds (λ c d. leads_next ExponentDigits c ExponentDigits
    (cond-true (is_digit c) (Some ExponentDigits) None (digit_test c d))) h
