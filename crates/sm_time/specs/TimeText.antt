-- Which texts are of which stamp, in Smithy's three formats (Smithy 2.0, "timestampFormat trait"): `date-time`
-- is RFC 3339, section 5.6, `http-date` IMF-fixdate alone of RFC 9110, section 5.6.7, and `epoch-seconds` a
-- number of RFC 8259, section 6, without an exponent.
use Rattle.std.specs.Prelude.{◌≡◌, ◌⊎◌, ℕ, ◌+◌, ◌*◌, ◌<◌, ◌≤◌, Bool, List, [], ◌∷◌, ◌++◌, length, slice_index, All, take, drop, codes}
use Rattle.std.specs.Prelude.{if◌then◌else◌, ℤ, pos, neg_ℤ, ◌+ℤ◌, ◌-ℤ◌, ◌≤ℤ◌}
use Rattle.std.specs.Str.Parse.{AllDigits, IsNumeral, digits_value}
use Rattle.sm_bytes.specs.Ascii.{full_stop, digit_zero, capital_t, small_t}
use Rattle.sm_time.specs.declared.format.Format.{Format}
use Rattle.sm_time.specs.declared.format.Format.TheVariants.{DateTime, HttpDate, EpochSeconds}
use Rattle.sm_time.specs.declared.civil.Civil.{Civil}
use Rattle.sm_time.specs.Civil.{IsCivil, second_count, two_digits, clock_text, imf_fixdate}

-- the milliseconds of a stamp, from 0000-01-01T00:00:00Z to 9999-12-31T23:59:59.999Z, counted from 1970
abbrev pub IsStamp : ℤ → Type 0
IsStamp ms = (neg_ℤ (pos 62_167_219_200_000) ≤ℤ ms) × (ms ≤ℤ pos 253_402_300_799_999)

-- time-offset: `Z`, `z`, or the hours and minutes by which a clock is ahead of UTC or behind it
pub data Zone : Type 0 where
  zulu small_zulu : Zone
  ahead behind : ℕ → ℕ → Zone

-- how it is spelled
abbrev pub zone_text : Zone → List ℕ
zone_text zulu = codes "Z"
zone_text small_zulu = codes "z"
zone_text (ahead h m) = codes "+" ++ two_digits h ++ codes ":" ++ two_digits m
zone_text (behind h m) = codes "-" ++ two_digits h ++ codes ":" ++ two_digits m

-- hours to 23 and minutes to 59
abbrev pub IsZone : Zone → Type 0
IsZone zulu = Unit {0}
IsZone small_zulu = Unit {0}
IsZone (ahead h m) = (h < 24) × (m < 60)
IsZone (behind h m) = (h < 24) × (m < 60)

-- the milliseconds by which its clock is ahead of UTC
abbrev pub offset : Zone → ℤ
offset zulu = pos 0
offset small_zulu = pos 0
offset (ahead h m) = pos ((h * 60 + m) * 60_000)
offset (behind h m) = neg_ℤ (pos ((h * 60 + m) * 60_000))

-- nothing, or a point and digits
abbrev pub fraction_text : List ℕ → List ℕ
fraction_text [] = []
fraction_text (d ∷ ds) = full_stop ∷ d ∷ ds

-- the first three digits of a fraction, with zeros where it has fewer: its whole milliseconds
abbrev pub thousandths : List ℕ → ℕ
thousandths digits = digits_value 10 (take 3 (digits ++ codes "000"))

-- no digit after the third is other than 0
abbrev pub IsWholeMillis : List ℕ → Type 0
IsWholeMillis digits = All (λ d. d ≡ digit_zero) (drop 3 digits)

-- int = zero / ( digit1-9 *DIGIT ): digits, of which a first 0 stands alone
abbrev pub IsIntDigits : List ℕ → Type 0
IsIntDigits digits = IsNumeral 10 digits × (slice_index digits 0 ≡ digit_zero → length digits ≡ 1)

-- what a text shows: a clock, with its letter, the digits of its fraction and its zone; a clock of GMT; or a
-- number, negative or not, with the digits before and after its point
pub data Form : Type 0 where
  clock_form : ℕ → Civil → List ℕ → Zone → Form
  gmt_form : Civil → Form
  seconds_form : Bool → List ℕ → List ℕ → Form

-- the text that shows it
abbrev pub form_text : Form → List ℕ
form_text (clock_form letter c digits zone) = clock_text letter c ++ fraction_text digits ++ zone_text zone
form_text (gmt_form c) = imf_fixdate c
form_text (seconds_form negative int digits) = (if negative then codes "-" else []) ++ int ++ fraction_text digits

-- the letter between date and time, `T` or `t`
abbrev pub IsLetter : ℕ → Type 0
IsLetter letter = (letter ≡ capital_t) ⊎ (letter ≡ small_t)

-- the forms of each format
abbrev pub IsStampForm : Format → Form → Type 0
IsStampForm DateTime (clock_form letter c digits zone) =
    IsLetter letter × IsCivil c × AllDigits 10 digits × IsZone zone
IsStampForm DateTime (gmt_form c) = ⊥
IsStampForm DateTime (seconds_form negative int digits) = ⊥
IsStampForm HttpDate (clock_form letter c digits zone) = ⊥
IsStampForm HttpDate (gmt_form c) = IsCivil c × (1970 ≤ c.year)
IsStampForm HttpDate (seconds_form negative int digits) = ⊥
IsStampForm EpochSeconds (clock_form letter c digits zone) = ⊥
IsStampForm EpochSeconds (gmt_form c) = ⊥
IsStampForm EpochSeconds (seconds_form negative int digits) = IsIntDigits int × AllDigits 10 digits

-- the digits of its fraction
abbrev pub digits_of : Form → List ℕ
digits_of (clock_form letter c digits zone) = digits
digits_of (gmt_form c) = []
digits_of (seconds_form negative int digits) = digits

-- the milliseconds from 1970 to a moment that lies so many seconds after 0000-01-01T00:00:00Z
abbrev pub from_1970 : ℕ → ℤ
from_1970 seconds = pos (seconds * 1000) -ℤ pos 62_167_219_200_000

-- the moment, in whole milliseconds from 1970: what the clock shows, less its offset; or the number of seconds
abbrev pub moment : Form → ℤ
moment (clock_form letter c digits zone) = from_1970 (second_count c) +ℤ pos (thousandths digits) -ℤ offset zone
moment (gmt_form c) = from_1970 (second_count c)
moment (seconds_form negative int digits) =
    let ms = pos (digits_value 10 int * 1000 + thousandths digits) in if negative then neg_ℤ ms else ms

-- the text shows this form of the format
abbrev pub Shows : Format → List ℕ → Form → Type 0
Shows format text form = IsStampForm format form × (text ≡ form_text form)

-- the text is one of the format, and the stamp is its moment
abbrev pub TimeText : Format → ℤ → List ℕ → Type 0
TimeText format ms text =
    (form : Form) × Shows format text form × IsWholeMillis (digits_of form) × (moment form ≡ ms) × IsStamp ms
