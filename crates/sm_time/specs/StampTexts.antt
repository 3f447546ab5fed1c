-- The stamp of a text in each format, as a function: the form that a text shows, if it shows any, is told by its bytes, so a form is
-- supposed and its text compared. A law ties it to the texts of stamps.
use Rattle.std.specs.Prelude.{ℕ, ◌+◌, ◌-◌, ◌*◌, nat_lt, nat_le, ◌==◌, ℤ, pos, neg_ℤ, int_le, Bool, true, false, not, ◌&&◌, ◌||◌, cond}
use Rattle.std.specs.Prelude.{List, [], ◌∷◌, take, drop, slice_index_or, codes, Option, Some, None, if◌then◌else◌}
use Rattle.std.specs.Char.{is_ascii_digit}
use Rattle.std.specs.List.{list_all, position_or_len, prefix_len}
use Rattle.std.specs.Str.{bytes_eq}
use Rattle.sm_bytes.specs.Ascii.{digit_zero, full_stop, minus, plus, capital_t, small_t}
use Rattle.sm_time.specs.declared.format.Format.{Format}
use Rattle.sm_time.specs.declared.format.Format.TheVariants.{DateTime, HttpDate, EpochSeconds}
use Rattle.sm_time.specs.declared.civil.Civil.{Civil}
use Rattle.sm_time.specs.Calendar.{Date, days_in_month}
use Rattle.sm_time.specs.Civil.{date_in, month_name}
use Rattle.sm_time.specs.TimeText.{Form, clock_form, gmt_form, seconds_form, form_text, digits_of, moment, Zone, zulu, small_zulu, ahead}
use Rattle.sm_time.specs.TimeText.{behind, TimeText}

-- the milliseconds of a stamp: of the years 0000 to 9999
abbrev pub is_stamp : ℤ → Bool
is_stamp ms = int_le (neg_ℤ (pos 62_167_219_200_000)) ms && int_le ms (pos 253_402_300_799_999)

-- the digit that a byte shows, and the numbers that two and four bytes from the i-th on show, if they are digits
abbrev pub digit_in : List ℕ → ℕ → ℕ
digit_in t i = slice_index_or t i 0 - digit_zero

abbrev pub two_in : List ℕ → ℕ → ℕ
two_in t i = digit_in t i * 10 + digit_in t (i + 1)

abbrev pub four_in : List ℕ → ℕ → ℕ
four_in t i = two_in t i * 100 + two_in t (i + 2)

-- the digits that stand first, and what is behind them
abbrev pub digits_first : List ℕ → List ℕ
digits_first t = take (prefix_len is_ascii_digit t) t

abbrev pub behind_digits : List ℕ → List ℕ
behind_digits t = drop (prefix_len is_ascii_digit t) t

-- the digits of the fraction that stands first, and what is behind it
abbrev pub fraction_first : List ℕ → List ℕ
fraction_first [] = []
fraction_first (b ∷ t) = cond (b == full_stop) (digits_first t) []

abbrev pub behind_fraction : List ℕ → List ℕ
behind_fraction [] = []
behind_fraction (b ∷ t) = cond (b == full_stop) (behind_digits t) (b ∷ t)

-- the zone that a text shows, if it shows one
abbrev pub zone_in : List ℕ → Zone
zone_in [] = zulu
zone_in (b ∷ t) =
    if bytes_eq (b ∷ t) (codes "Z") then zulu
    else (if bytes_eq (b ∷ t) (codes "z") then small_zulu
    else (if b == plus then ahead (two_in t 0) (two_in t 3) else behind (two_in t 0) (two_in t 3)))

-- the number of the month with this name, and of the one whose name stands in a text from the i-th byte on
abbrev pub month_of : List ℕ → ℕ
month_of name =
    1 + position_or_len (λ m. bytes_eq (month_name m) name) (1 ∷ 2 ∷ 3 ∷ 4 ∷ 5 ∷ 6 ∷ 7 ∷ 8 ∷ 9 ∷ 10 ∷ 11 ∷ 12 ∷ [])

abbrev pub month_in : List ℕ → ℕ → ℕ
month_in t i = month_of (take 3 (drop i t))

-- what the clock shows in `2000-02-29T08:49:37`, and in `Sun, 06 Nov 1994 08:49:37 GMT`
abbrev pub clock_in : List ℕ → Civil
clock_in t = record {
  year = four_in t 0;
  month = two_in t 5;
  day = two_in t 8;
  hour = two_in t 11;
  minute = two_in t 14;
  second = two_in t 17;
}

abbrev pub gmt_in : List ℕ → Civil
gmt_in t = record {
  year = four_in t 12;
  month = month_in t 8;
  day = two_in t 5;
  hour = two_in t 17;
  minute = two_in t 20;
  second = two_in t 23;
}

abbrev pub is_negative_in : List ℕ → Bool
is_negative_in [] = false
is_negative_in (b ∷ t) = b == minus

-- the form that a text of the format would show
abbrev pub supposed : Format → List ℕ → Form
supposed DateTime t =
    clock_form (slice_index_or t 10 0) (clock_in t) (fraction_first (drop 19 t)) (zone_in (behind_fraction (drop 19 t)))
supposed HttpDate t = gmt_form (gmt_in t)
supposed EpochSeconds t =
    let u = if is_negative_in t then drop 1 t else t in
    seconds_form (is_negative_in t) (digits_first u) (fraction_first (behind_digits u))

-- the tests of what a form must be
abbrev pub is_date : Date → Bool
is_date d =
    nat_le d.year 9999 && (nat_le 1 d.month && (nat_le d.month 12 && (nat_le 1 d.day && nat_le d.day (days_in_month d.year d.month))))

abbrev pub is_civil : Civil → Bool
is_civil d = is_date (date_in d) && (nat_lt d.hour 24 && (nat_lt d.minute 60 && nat_lt d.second 60))

abbrev pub is_zone : Zone → Bool
is_zone zulu = true
is_zone small_zulu = true
is_zone (ahead h m) = nat_lt h 24 && nat_lt m 60
is_zone (behind h m) = nat_lt h 24 && nat_lt m 60

abbrev pub are_digits : List ℕ → Bool
are_digits ds = list_all is_ascii_digit ds

-- digits, of which a first 0 stands alone
abbrev pub is_int : List ℕ → Bool
is_int [] = false
is_int (d ∷ []) = is_ascii_digit d
is_int (d ∷ e ∷ ds) = not (d == digit_zero) && are_digits (d ∷ e ∷ ds)

abbrev pub is_form : Format → Form → Bool
is_form DateTime (clock_form letter d digits zone) =
    ((letter == capital_t) || (letter == small_t)) && (is_civil d && (are_digits digits && is_zone zone))
is_form HttpDate (gmt_form d) = is_civil d && nat_le 1970 d.year
is_form EpochSeconds (seconds_form negative int digits) = is_int int && are_digits digits
is_form format form = false

abbrev pub is_whole_millis : List ℕ → Bool
is_whole_millis digits = list_all (λ d. d == digit_zero) (drop 3 digits)

-- the stamp of a text, where it is one of the format
abbrev pub stamp_of_form : Format → List ℕ → Form → Option ℤ
stamp_of_form format t form =
    cond ((is_form format form && bytes_eq t (form_text form)) && (is_whole_millis (digits_of form) && is_stamp (moment form)))
    (Some (moment form)) None

abbrev pub stamp_of : Format → List ℕ → Option ℤ
stamp_of format t = stamp_of_form format t (supposed format t)

-- the law: it is the stamp of the text, and where there is none the text is no stamp's
abbrev pub TellsStamp : Format → List ℕ → Option ℤ → Type 0
TellsStamp format t (Some ms) = TimeText format ms t
TellsStamp format t None = (ms : ℤ) → TimeText format ms t → ⊥

abbrev pub StampOfText : Type 0
StampOfText = (format : Format) (t : List ℕ) → TellsStamp format t (stamp_of format t)
