-- What texts of simple values come to, beside the words of definitions.
use Rattle.std.proofs.Common.{◌≡◌, ℕ, suc, ◌<◌, ◌≤◌, ◌^◌, ℤ, pos, negsuc, Bool, true, false, ◌&&◌, cond, List, [], ◌∷◌, drop, length, refl, sym}
use Rattle.std.proofs.Common.{ap, ◌∙◌, subst, arith}
use Rattle.std.specs.Prelude.{◌==◌, if◌then◌else◌, not, nat_lt, All, FitsSigned, IsUtf8, Option, Some, None, Result, Ok, Err}
use Rattle.std.specs.Char.{digit_value, is_ascii_digit}
use Rattle.std.specs.Int.{w64}
use Rattle.std.specs.List.{list_all}
use Rattle.std.specs.Str.{is_utf8}
use Rattle.std.specs.Str.Parse.{AllDigits, IsNumeral, signed_digits_value, starts_with_minus, without_leading_plus, without_leading_sign}
use Rattle.std.proofs.lemmas.Bool.{false_from_ne_true}
use Rattle.std.proofs.lemmas.Bool.Decides.{Decides-eqb, Decides-ltb, nat_tests}
use Rattle.std.proofs.lemmas.List.Elements.{All-cons, All-nil}
use Rattle.std.proofs.lemmas.Str.Ascii.{IsAscii-from_all}
use Rattle.std.proofs.lemmas.Str.{IsUtf8-from_ascii, is_utf8-from_IsUtf8}
use Rattle.sm_bytes.specs.Ascii.{minus}
use Rattle.sm_time.specs.StampTexts.{are_digits, is_int}
use Rattle.sm_time.specs.declared.format.Format.{Format}
use Rattle.sm_time.proofs.StampForms.{and_first, and_second, digits_decide}
use Rattle.sm_shapes.specs.Values.{Val, int_val}
use Rattle.sm_shapes.specs.declared.fault.FaultKind.{FaultKind}
use Rattle.sm_shapes.specs.declared.fault.FaultKind.TheVariants.{Width, WrongType}
use Rattle.sm_codec.specs.Convention.{fits_bits}
use Rattle.sm_codec.specs.declared.simple.Simple.{Simple}
use Rattle.sm_parts.specs.Texts.{decimal_read, is_decimal, is_field_byte, number_read, field_read, target_read, text_read}

-- digits, of which a first 0 stands alone, are a numeral
int_numeral : (u : List ℕ) → is_int u ≡ true → IsNumeral 10 u
int_numeral [] h = absurd (no_true h)
  where
    no_true : false ≡ true → ⊥
    no_true e = cc
int_numeral (d ∷ []) h = (omega arith, (digits_decide (d ∷ [])).0 (ap (λ t. t && true) h))
int_numeral (d ∷ e ∷ ds) h =
    (omega arith, (digits_decide (d ∷ e ∷ ds)).0 (and_second (not (d == 48)) (are_digits (d ∷ e ∷ ds)) h))

no_plus : (d : ℕ) → digit_value d < 10 → (d == 43) ≡ false
no_plus d h = false_from_ne_true (d == 43) (λ e. absurd (omega (arith, subst (λ c. digit_value c < 10) ((Decides-eqb d 43).0 e) h)))

without_sign : (b : ℕ) (u : List ℕ) (t : Bool) → (b == minus) ≡ t → (if t then is_int u else is_int (b ∷ u)) ≡ true
    → IsNumeral 10 (without_leading_sign (b ∷ u))
without_sign b u true e h = subst (λ t. IsNumeral 10 (cond t u (without_leading_plus (b ∷ u)))) (sym e) (int_numeral u h)
without_sign b u false e h =
    let numeral = int_numeral (b ∷ u) h in
    subst (λ t. IsNumeral 10 (cond t u (without_leading_plus (b ∷ u)))) (sym e)
    (subst (λ t. IsNumeral 10 (drop (cond t 1 0) (b ∷ u))) (sym (no_plus b numeral.1.0)) numeral)

pub decimal_numeral : (u : List ℕ) → is_decimal u ≡ true → IsNumeral 10 (without_leading_sign u)
decimal_numeral [] h = absurd (no_true h)
  where
    no_true : false ≡ true → ⊥
    no_true e = cc
decimal_numeral (b ∷ u) h = without_sign b u (b == minus) refl h

-- a number of 64 bits
pub long_fits : (z : ℤ) → FitsSigned w64 z → fits_bits 64 z ≡ true
long_fits (pos n) h = (Decides-ltb n (2 ^ 63)).1 (omega (arith, h))
long_fits (negsuc n) h = (Decides-ltb n (2 ^ 63)).1 (omega (arith, h))

fits_long_pos : (z : ℤ) → fits_bits 64 z ≡ true → FitsSigned w64 z
fits_long_pos (pos n) h = let below = (Decides-ltb n (2 ^ 63)).0 h in omega (arith, below)
fits_long_pos (negsuc n) h = let below = (Decides-ltb n (2 ^ 63)).0 h in omega (arith, below)

-- what is read of a decimal of 64 bits, and of a longer one
pub decimal_is : (bits : ℕ) (u : List ℕ) (z : ℤ) → is_decimal u ≡ true → FitsSigned w64 z → z ≡ signed_digits_value 10 u
    → cond (fits_bits bits z) (Ok (int_val z)) (Err Width) ≡ decimal_read bits u
decimal_is bits u z h fits e =
    sym (ap (λ t. cond t (number_read bits (signed_digits_value 10 u)) (Err WrongType)) h ∙ ap (number_read bits) (sym e)
    ∙ ap (λ t. cond (t && fits_bits bits z) (Ok (int_val z)) (Err Width)) (long_fits z fits))

pub decimal_is_long : (bits : ℕ) (u : List ℕ) → is_decimal u ≡ true
    → ¬ (IsNumeral 10 (without_leading_sign u) × FitsSigned w64 (signed_digits_value 10 u)) → decimal_read bits u ≡ Err Width
decimal_is_long bits u h long =
    let z = signed_digits_value 10 u in
    ap (λ t. cond t (number_read bits z) (Err WrongType)) h
    ∙ ap (λ t. cond (t && fits_bits bits z) (Ok (int_val z)) (Err Width))
    (false_from_ne_true (fits_bits 64 z) (λ e. long (decimal_numeral u h, fits_long_pos z e)))

pub decimal_is_none : (bits : ℕ) (u : List ℕ) → is_decimal u ≡ false → decimal_read bits u ≡ Err WrongType
decimal_is_none bits u h = ap (λ t. cond t (number_read bits (signed_digits_value 10 u)) (Err WrongType)) h

-- the tests of digits, one by one
pub one_digit : (d : ℕ) (u : List ℕ) → u ≡ [] → is_ascii_digit d ≡ is_int (d ∷ u)
one_digit d u e = ap (λ t. is_int (d ∷ t)) (sym e)

pub more_digits : (d : ℕ) (u : List ℕ) → (length u ≡ 0 → ⊥) → (not (d == 48) && are_digits (d ∷ u)) ≡ is_int (d ∷ u)
more_digits d [] h = absurd (h refl)
more_digits d (e ∷ u) h = refl

-- bytes that are UTF-8, and those that may stand in a field
pub target_is : (x : Simple) (u t : List ℕ) → IsUtf8 u → t ≡ u → text_read x t ≡ target_read x u
target_is x u t h e = ap (text_read x) e ∙ sym (ap (λ b. cond b (text_read x u) (Err WrongType)) (is_utf8-from_IsUtf8 u h))

pub target_is_none : (x : Simple) (u : List ℕ) → is_utf8 u ≡ false → target_read x u ≡ Err WrongType
target_is_none x u h = ap (λ b. cond b (text_read x u) (Err WrongType)) h

pub field_is : (x : Simple) (u t : List ℕ) → list_all is_field_byte u ≡ true → t ≡ u → text_read x t ≡ field_read x u
field_is x u t h e = ap (text_read x) e ∙ sym (ap (λ b. cond b (text_read x u) (Err WrongType)) h)

pub field_is_none : (x : Simple) (u : List ℕ) → list_all is_field_byte u ≡ false → field_read x u ≡ Err WrongType
field_is_none x u h = ap (λ b. cond b (text_read x u) (Err WrongType)) h

-- bytes that may stand in a field are ASCII, so they are UTF-8
field_small : (b : ℕ) → is_field_byte b ≡ true → b < 128
field_small b h = grind (arith, nat_tests)

field_below : (u : List ℕ) → list_all is_field_byte u ≡ true → All (λ b. b < 128) u
field_below [] h = All-nil (λ b. b < 128)
field_below (b ∷ u) h =
    All-cons (λ b. b < 128) b u (field_small b (and_first (is_field_byte b) (list_all is_field_byte u) h))
    (field_below u (and_second (is_field_byte b) (list_all is_field_byte u) h))

pub field_utf8 : (u : List ℕ) → list_all is_field_byte u ≡ true → IsUtf8 u
field_utf8 u h = IsUtf8-from_ascii u (IsAscii-from_all u (field_below u h))
