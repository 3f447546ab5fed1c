-- The text that is written for a simple value is read again as the value.
use Rattle.std.proofs.Common.{◌≡◌, ℕ, zero, suc, ◌<◌, ◌^◌, ℤ, pos, negsuc, Bool, true, false, ◌&&◌, cond, List, [], ◌∷◌, length, refl}
use Rattle.std.proofs.Common.{ap, ◌∙◌, arith}
use Rattle.std.specs.Prelude.{if◌then◌else◌, FitsSigned, IsUtf8, Ok, Err, codes}
use Rattle.std.specs.Fmt.{decimal, signed_decimal}
use Rattle.std.specs.Int.{w64}
use Rattle.std.specs.List.{list_all}
use Rattle.std.specs.Str.{is_utf8}
use Rattle.std.specs.Str.Parse.{AllDigits, signed_digits_value}
use Rattle.std.proofs.lemmas.Bool.{ne_eqb}
use Rattle.std.proofs.lemmas.Bool.Decides.{Decides-ltb}
use Rattle.std.proofs.lemmas.Fmt.{IsAscii-decimal, decimal_digit, decimal_is_IsNumeral, first_decimal}
use Rattle.std.proofs.lemmas.Str.{IsUtf8-from_ascii, is_utf8-from_IsUtf8}
use Rattle.std.proofs.lemmas.Str.Ascii.{IsAscii-cons, IsAscii-nil}
use Rattle.std.proofs.lemmas.Str.Parse.{digit_from_value}
use Rattle.sm_bytes.specs.Ascii.{minus}
use Rattle.sm_json.proofs.WrittenNumbers.{int_spelt}
use Rattle.sm_time.specs.StampTexts.{are_digits, is_int, is_stamp}
use Rattle.sm_time.specs.TimeText.{seconds_form}
use Rattle.sm_time.specs.Written.{IsWritable, written_stamp}
use Rattle.sm_time.specs.declared.format.Format.{Format}
use Rattle.sm_time.specs.declared.format.Format.TheVariants.{DateTime, EpochSeconds, HttpDate}
use Rattle.sm_time.proofs.AsciiTexts.{written_utf8}
use Rattle.sm_time.proofs.StampForms.{and_first, and_second, form_decides, stamp_decides}
use Rattle.sm_time.proofs.StampTold.{written_told}
use Rattle.sm_shapes.specs.Fitting.{IsOfKind}
use Rattle.sm_shapes.specs.Values.{Val, bool_val, int_val, text_val, time_val}
use Rattle.sm_shapes.specs.declared.fault.FaultKind.TheVariants.{Time, Width, WrongType}
use Rattle.sm_shapes.specs.declared.kinds.ShapeKind.{ShapeKind}
use Rattle.sm_shapes.specs.declared.kinds.ShapeKind.TheVariants as kind
use Rattle.sm_codec.specs.Convention.{fits_bits}
use Rattle.sm_codec.specs.Conventions.{has_text, or_fault, stamp_val}
use Rattle.sm_codec.specs.declared.simple.Simple.{Simple}
use Rattle.sm_codec.specs.declared.simple.Simple.TheVariants as the
use Rattle.sm_codec.proofs.TextLeaves.{date_writable}
use Rattle.sm_parts.specs.Texts.{decimal_read, field_read, has_written_text, is_decimal, is_field_byte, number_read, target_read, text_read}
use Rattle.sm_parts.specs.Texts.{text_written, truth_text}

-- whole numbers of each kind have at most 64 bits
byte_fits : (z : ℤ) → IsOfKind kind.Byte (int_val z) → FitsSigned w64 z
byte_fits (pos n) h = omega (arith, h)
byte_fits (negsuc n) h = omega (arith, h)

short_fits : (z : ℤ) → IsOfKind kind.Short (int_val z) → FitsSigned w64 z
short_fits (pos n) h = omega (arith, h)
short_fits (negsuc n) h = omega (arith, h)

integer_fits : (z : ℤ) → IsOfKind kind.Integer (int_val z) → FitsSigned w64 z
integer_fits (pos n) h = omega (arith, h)
integer_fits (negsuc n) h = omega (arith, h)

pub whole_fits : (k : ShapeKind) (z : ℤ) → IsOfKind k (int_val z) → FitsSigned w64 z
whole_fits kind.Byte z h = byte_fits z h
whole_fits kind.Short z h = short_fits z h
whole_fits kind.Integer z h = integer_fits z h
whole_fits kind.IntEnum z h = integer_fits z h
whole_fits kind.Long z h = h
whole_fits k z h = absurd h

holds_long : (z : ℤ) → FitsSigned w64 z → fits_bits 64 z ≡ true
holds_long (pos n) h = (Decides-ltb n (2 ^ 63)).1 (omega (arith, h))
holds_long (negsuc n) h = (Decides-ltb n (2 ^ 63)).1 (omega (arith, h))

-- the digits of a number begin with no 0, but for the one of 0 itself
digits_int : (n : ℕ) → n < 2 ^ 64 → is_int (decimal n) ≡ true
digits_int zero h =
    and_first (is_int (decimal 0)) (are_digits [])
    ((form_decides EpochSeconds (seconds_form false (decimal 0) [])).1
    (((decimal_is_IsNumeral 0 h).0, λ e. ap length (decimal_digit 0 (omega arith))), tt))
digits_int (suc n) h =
    and_first (is_int (decimal (suc n))) (are_digits [])
    ((form_decides EpochSeconds (seconds_form false (decimal (suc n)) [])).1
    (((decimal_is_IsNumeral (suc n) h).0, λ e. absurd (omega (arith, e, first_decimal (suc n) (omega arith) h))), tt))

unsigned_decimal : (u : List ℕ) → AllDigits 10 u → is_int u ≡ true → is_decimal u ≡ true
unsigned_decimal [] digits h = h
unsigned_decimal (b ∷ u) digits h =
    let digit = digit_from_value b digits.0 in
    ap (λ t. if t then is_int u else is_int (b ∷ u)) (ne_eqb b minus (λ e. omega (arith, digit, e))) ∙ h

written_decimal : (z : ℤ) → FitsSigned w64 z → is_decimal (signed_decimal z) ≡ true
written_decimal (pos n) h =
    let small : n < 2 ^ 64 = omega (arith, h) in
    unsigned_decimal (decimal n) (decimal_is_IsNumeral n small).0.1 (digits_int n small)
written_decimal (negsuc n) h = digits_int (suc n) (omega (arith, h))

number_again : (bits : ℕ) (z : ℤ) → FitsSigned w64 z → fits_bits bits z ≡ true → decimal_read bits (signed_decimal z) ≡ Ok (int_val z)
number_again bits z long h =
    ap (λ t. cond t (number_read bits (signed_digits_value 10 (signed_decimal z))) (Err WrongType)) (written_decimal z long)
    ∙ ap (number_read bits) (int_spelt z long).2
    ∙ ap (λ t. cond (t && fits_bits bits z) (Ok (int_val z)) (Err Width)) (holds_long z long)
    ∙ ap (λ t. cond t (Ok (int_val z)) (Err Width)) h

number_utf8 : (z : ℤ) → FitsSigned w64 z → IsUtf8 (signed_decimal z)
number_utf8 (pos n) h = IsUtf8-from_ascii (decimal n) (IsAscii-decimal n (omega (arith, h)))
number_utf8 (negsuc n) h =
    IsUtf8-from_ascii (minus ∷ decimal (suc n))
    (IsAscii-cons minus (decimal (suc n)) (omega arith) (IsAscii-decimal (suc n) (omega (arith, h))))

truth_utf8 : (b : Bool) → IsUtf8 (truth_text b)
truth_utf8 true =
    IsUtf8-from_ascii (codes "true")
    (IsAscii-cons 116 (codes "rue") (omega arith) (IsAscii-cons 114 (codes "ue") (omega arith)
    (IsAscii-cons 117 (codes "e") (omega arith) (IsAscii-cons 101 [] (omega arith) IsAscii-nil))))
truth_utf8 false =
    IsUtf8-from_ascii (codes "false")
    (IsAscii-cons 102 (codes "alse") (omega arith) (IsAscii-cons 97 (codes "lse") (omega arith)
    (IsAscii-cons 108 (codes "se") (omega arith)
    (IsAscii-cons 115 (codes "e") (omega arith) (IsAscii-cons 101 [] (omega arith) IsAscii-nil)))))

-- a stamp in a format that has a text of it
writable : (format : Format) (ms : ℤ) → has_text format ms ≡ true → IsWritable format ms
writable DateTime ms h = tt
writable HttpDate ms h = date_writable ms h
writable EpochSeconds ms h = tt

pub stamp_written : (format : Format) (ms : ℤ) → has_written_text (the.Time format) (time_val ms) ≡ true → is_stamp ms ≡ true
stamp_written format ms h = and_first (is_stamp ms) (has_text format ms) h

pub stamp_writable : (format : Format) (ms : ℤ) → has_written_text (the.Time format) (time_val ms) ≡ true → IsWritable format ms
stamp_writable format ms h = writable format ms (and_second (is_stamp ms) (has_text format ms) h)

-- each simple value that has a text
pub text_again : (x : Simple) (k : ShapeKind) (v : Val) → IsOfKind k v → has_written_text x v ≡ true → text_read x (text_written x v) ≡ Ok v
text_again the.Boolean k (bool_val true) of h = refl
text_again the.Boolean k (bool_val false) of h = refl
text_again (the.Number bits) k (int_val z) of h = number_again bits z (whole_fits k z of) (and_first (fits_bits bits z) true h)
text_again the.Text k (text_val u) of h = refl
text_again (the.Time format) k (time_val ms) of h =
    ap (λ o. or_fault Time (stamp_val o))
    (written_told format ms ((stamp_decides ms).0 (stamp_written format ms h)) (stamp_writable format ms h))
text_again x k v of h = absurd cc

-- it is UTF-8, so it may stand in a target
pub text_utf8 : (x : Simple) (k : ShapeKind) (v : Val) → IsOfKind k v → has_written_text x v ≡ true → is_utf8 (text_written x v) ≡ true
text_utf8 the.Boolean k (bool_val b) of h = is_utf8-from_IsUtf8 (truth_text b) (truth_utf8 b)
text_utf8 (the.Number bits) k (int_val z) of h = is_utf8-from_IsUtf8 (signed_decimal z) (number_utf8 z (whole_fits k z of))
text_utf8 the.Text k (text_val u) of h = and_first (is_utf8 u) true h
text_utf8 (the.Time format) k (time_val ms) of h =
    is_utf8-from_IsUtf8 (written_stamp format ms)
    (written_utf8 format ms ((stamp_decides ms).0 (stamp_written format ms h)) (stamp_writable format ms h))
text_utf8 x k v of h = absurd cc

pub target_again : (x : Simple) (k : ShapeKind) (v : Val) → IsOfKind k v → has_written_text x v ≡ true
    → target_read x (text_written x v) ≡ Ok v
target_again x k v of h =
    ap (λ t. cond t (text_read x (text_written x v)) (Err WrongType)) (text_utf8 x k v of h) ∙ text_again x k v of h

-- and where its bytes may stand in a field, it may
pub field_again : (x : Simple) (k : ShapeKind) (v : Val) → IsOfKind k v → has_written_text x v ≡ true
    → list_all is_field_byte (text_written x v) ≡ true → field_read x (text_written x v) ≡ Ok v
field_again x k v of h bytes =
    ap (λ t. cond t (text_read x (text_written x v)) (Err WrongType)) bytes ∙ text_again x k v of h
