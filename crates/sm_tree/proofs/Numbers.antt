-- Laws of number texts (RFC 8259, section 6): each stands for one tree, and what bytes it has.
use Rattle.std.proofs.Common.{◌≡◌, ℕ, ◌^◌, ◌≤◌, ◌<◌, ◌⊎◌, inl, inr, ℤ, true, false, List, [], ◌∷◌, ◌++◌, length, refl, sym, ap}
use Rattle.std.proofs.Common.{subst, ◌∙◌, arith}
use Rattle.std.specs.Prelude.{IsUtf8}
use Rattle.std.specs.List.{All}
use Rattle.std.proofs.lemmas.List.{append-nil}
use Rattle.std.proofs.lemmas.Str.{IsUtf8-from_ascii}
use Rattle.std.proofs.lemmas.Str.Ascii.{IsAscii-from_all}
use Rattle.std.proofs.lemmas.List.Elements.{All-nil, All-cons}
use Rattle.std.proofs.lemmas.Bool.Decides.{leb_tells}
use Rattle.std.specs.Char.{digit_value}
use Rattle.std.specs.Str.Parse.{AllDigits, signed_digits_value, without_leading_sign}
use lib.Dec.{leb}
use mir.Syntax.{w64}
use Rattle.std.specs.Int.Signed.{mag}
use mir.Val.{hbits}
use Rattle.sm_tree.specs.Node.{Node, null, bool, int, number, text, bytes, tag, opaque, list, object}
use Rattle.sm_tree.specs.Numbers.{AreDigits, IsMinus, IsInt, IsFraction, IsExponent, IsNumber, IsInt64, NumberText}
use Rattle.sm_tree.specs.NumberTail.{IsNumberByte, AreNumberBytes, Then, NumberTail, NumberLeads}
use Rattle.sm_tree.specs.steps.NumberBytes.{IsNumberStart}
use Rattle.sm_tree.specs.declared.number.Phase.{Phase}
use Rattle.sm_tree.specs.declared.number.Phase.TheVariants.{Start, Minus, Zero, Whole, Point, Fraction, Exponent, ExponentSign}
use Rattle.sm_tree.specs.declared.number.Phase.TheVariants.{ExponentDigits}
use Rattle.sm_tree.proofs.NumberParts.{then_none}
use Rattle.sm_tree.proofs.NumberSteps.{goes_on, comes_from, next_byte}

-- every byte of what completes a number is a byte of numbers, and so is every byte of a number

pub tail_bytes : (p : Phase) (u : List ℕ) → NumberTail p u → AreNumberBytes u
tail_bytes p [] t = tt
tail_bytes p (c ∷ u) t = let h = goes_on p c u t in (next_byte p c h.0 h.1, tail_bytes h.0 u h.2)

pub number_bytes : (t : List ℕ) → IsNumber t → AreNumberBytes t
number_bytes t n = tail_bytes Start t n

-- a number that has begun can be completed

abbrev pub completion : Phase → List ℕ
completion Start = 48 ∷ []
completion Minus = 48 ∷ []
completion Zero = []
completion Whole = []
completion Point = 48 ∷ []
completion Fraction = []
completion Exponent = 48 ∷ []
completion ExponentSign = 48 ∷ []
completion ExponentDigits = []

completes_zero : Then IsFraction IsExponent []
completes_zero = then_none IsFraction IsExponent [] (inl refl) (inl refl)

completes_fraction : Then AreDigits IsExponent []
completes_fraction = then_none AreDigits IsExponent [] tt (inl refl)

pub completes : (p : Phase) → NumberTail p (completion p)
completes Start = comes_from Start 48 Zero [] refl completes_zero
completes Minus = comes_from Minus 48 Zero [] refl completes_zero
completes Zero = completes_zero
completes Whole = then_none AreDigits (Then IsFraction IsExponent) [] tt completes_zero
completes Point = comes_from Point 48 Fraction [] refl completes_fraction
completes Fraction = completes_fraction
completes Exponent = comes_from Exponent 48 ExponentDigits [] refl tt
completes ExponentSign = comes_from ExponentSign 48 ExponentDigits [] refl tt
completes ExponentDigits = tt

-- what has been read is a number exactly where the phase may be the last

pub number_from_whole : (t : List ℕ) (p : Phase) → NumberLeads Start t p → NumberTail p [] → IsNumber t
number_from_whole t p h ends = subst IsNumber (append-nil t) (h.back [] ends)

pub whole_from_number : (t : List ℕ) (p : Phase) → NumberLeads Start t p → IsNumber t → NumberTail p []
whole_from_number t p h n = h.onward [] (subst IsNumber (sym (append-nil t)) n)

-- and so a number is UTF-8
pub byte_is_ascii : (c : ℕ) → IsNumberByte c → c < 128
byte_is_ascii c (inl d) = omega arith
byte_is_ascii c (inr (inl e)) = omega arith
byte_is_ascii c (inr (inr (inl e))) = omega arith
byte_is_ascii c (inr (inr (inr (inl e)))) = omega arith
byte_is_ascii c (inr (inr (inr (inr (inl e))))) = omega arith
byte_is_ascii c (inr (inr (inr (inr (inr e))))) = omega arith

pub number_bytes_utf8 : (t : List ℕ) → AreNumberBytes t → IsUtf8 t
number_bytes_utf8 t h = IsUtf8-from_ascii t (IsAscii-from_all t (each t h))
  where
    each : (t : List ℕ) → AreNumberBytes t → All (λ b. b < 128) t
    each [] h = All-nil (λ b. b < 128)
    each (c ∷ cs) h = All-cons (λ b. b < 128) c cs (byte_is_ascii c h.0) (each cs h.1)

-- a number begins with a digit or `-`
start_of : (m w r t : List ℕ) → t ≡ m ++ (w ++ r) → IsMinus m → IsInt w → (c : ℕ) × (u : List ℕ) × (t ≡ c ∷ u) × IsNumberStart c
start_of m w r t e (inr minus) i = (45, w ++ r, e ∙ ap (λ s. s ++ (w ++ r)) minus, inr refl)
start_of m w r t e (inl none) (inl zero) = (48, r, e ∙ ap (λ s. s ++ (w ++ r)) none ∙ ap (λ s. s ++ r) zero, inl (omega arith, omega arith))
start_of m w r t e (inl none) (inr (c, ds, begins, low, high, digits)) =
    (c, ds ++ r, e ∙ ap (λ s. s ++ (w ++ r)) none ∙ ap (λ s. s ++ r) begins, inl (omega arith, high))

pub number_starts : (t : List ℕ) → IsNumber t → (c : ℕ) × (u : List ℕ) × (t ≡ c ∷ u) × IsNumberStart c
number_starts t n = start_of n.minus n.whole (n.fraction ++ n.exponent) t n.parts n.is_minus n.is_int

-- each number text stands for one tree

int_alone : (z : ℤ) (m : Node) (t : List ℕ) → NumberText (int z) t → NumberText m t → int z ≡ m
int_alone z null t h k = absurd k
int_alone z (bool b) t h k = absurd k
int_alone z (int y) t h k = ap int (sym h.2 ∙ k.2)
int_alone z (number u) t h k = absurd (k.1 h.1)
int_alone z (text u) t h k = absurd k
int_alone z (bytes u) t h k = absurd k
int_alone z (tag a n) t h k = absurd k
int_alone z (opaque b) t h k = absurd k
int_alone z (list ns) t h k = absurd k
int_alone z (object ms) t h k = absurd k

number_alone : (u : List ℕ) (m : Node) (t : List ℕ) → NumberText (number u) t → NumberText m t → number u ≡ m
number_alone u null t h k = absurd k
number_alone u (bool b) t h k = absurd k
number_alone u (int y) t h k = absurd (h.1 k.1)
number_alone u (number v) t h k = ap number (sym h.2 ∙ k.2)
number_alone u (text v) t h k = absurd k
number_alone u (bytes v) t h k = absurd k
number_alone u (tag a n) t h k = absurd k
number_alone u (opaque b) t h k = absurd k
number_alone u (list ns) t h k = absurd k
number_alone u (object ms) t h k = absurd k

pub one_node : (n m : Node) (t : List ℕ) → NumberText n t → NumberText m t → n ≡ m
one_node null m t h k = absurd h
one_node (bool b) m t h k = absurd h
one_node (int z) m t h k = int_alone z m t h k
one_node (number u) m t h k = number_alone u m t h k
one_node (text u) m t h k = absurd h
one_node (bytes u) m t h k = absurd h
one_node (tag a n) m t h k = absurd h
one_node (opaque b) m t h k = absurd h
one_node (list ns) m t h k = absurd h
one_node (object ms) m t h k = absurd h

-- and stands for some tree

abbrev Decided : Type 0 → Type 0
Decided P = P ⊎ (P → ⊥)

is_below : (a b : ℕ) → Decided (a < b)
is_below a b = by_test (leb_tells b a)
  where
    by_test : ((leb b a ≡ true) × (b ≤ a)) ⊎ ((leb b a ≡ false) × (a < b)) → Decided (a < b)
    by_test (inl h) = inr (λ below. omega arith)
    by_test (inr h) = inl h.1

are_digits : (ds : List ℕ) → Decided (AllDigits 10 ds)
are_digits [] = inl tt
are_digits (c ∷ cs) = both (is_below (digit_value c) 10) (are_digits cs)
  where
    both : Decided (digit_value c < 10) → Decided (AllDigits 10 cs) → Decided ((digit_value c < 10) × AllDigits 10 cs)
    both (inl d) (inl ds) = inl (d, ds)
    both (inr d) x = inr (λ h. d h.0)
    both (inl d) (inr ds) = inr (λ h. ds h.1)

is_word : (t : List ℕ) → Decided (IsInt64 t)
is_word t = all (is_below 0 (length (without_leading_sign t))) (are_digits (without_leading_sign t))
    (is_below (mag (signed_digits_value 10 t)) (2 ^ hbits w64))
  where
    all : Decided (0 < length (without_leading_sign t)) → Decided (AllDigits 10 (without_leading_sign t))
        → Decided (mag (signed_digits_value 10 t) < 2 ^ hbits w64) → Decided (IsInt64 t)
    all (inl some) (inl digits) (inl fits) = inl (record { is_integer = (some, digits); in_range = record { sfits = fits } })
    all (inr none) x y = inr (λ w. none w.is_integer.0)
    all (inl some) (inr other) y = inr (λ w. other w.is_integer.1)
    all (inl some) (inl digits) (inr above) = inr (λ w. above w.in_range.sfits)

pub number_exists : (t : List ℕ) → IsNumber t → (n : Node) × NumberText n t
number_exists t h = by_word (is_word t)
  where
    by_word : Decided (IsInt64 t) → (n : Node) × NumberText n t
    by_word (inl word) = (int (signed_digits_value 10 t), (h, word, refl))
    by_word (inr none) = (number t, (h, none, refl))
