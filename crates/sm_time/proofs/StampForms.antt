-- The tests of a stamp's form decide what they are tests of.
use Rattle.std.proofs.Common.{◌≡◌, ℕ, ◌<◌, ◌≤◌, ℤ, Bool, true, false, not, ◌&&◌, ◌||◌, List, [], ◌∷◌, length, drop, refl, sym, ap, ◌∙◌}
use Rattle.std.proofs.Common.{subst, arith}
use Rattle.std.specs.Prelude.{pos, neg_ℤ, ◌≤ℤ◌, nat_le, nat_lt, ◌==◌, int_le, T}
use Rattle.std.specs.Bool.{Decides}
use Rattle.std.specs.Char.{is_ascii_digit, digit_value}
use Rattle.std.specs.List.{list_all}
use Rattle.std.specs.Str.Parse.{AllDigits}
use Rattle.std.proofs.lemmas.Bool.Decides.{nat_tests, Decides-and, Decides-or, Decides-eqb, Decides-ltb, Decides-by_and, Decides-like}
use Rattle.sm_bytes.specs.Ascii.{digit_zero, capital_t, small_t}
use Rattle.sm_time.specs.declared.format.Format.{Format}
use Rattle.sm_time.specs.declared.format.Format.TheVariants.{DateTime, HttpDate, EpochSeconds}
use Rattle.sm_time.specs.declared.civil.Civil.{Civil}
use Rattle.sm_time.specs.Calendar.{Date, IsDate, days_in_month}
use Rattle.sm_time.specs.Civil.{IsCivil, date_in}
use Rattle.sm_time.specs.TimeText.{Form, clock_form, gmt_form, seconds_form, IsStampForm, IsIntDigits, IsLetter, IsZone, IsWholeMillis}
use Rattle.sm_time.specs.TimeText.{IsStamp, Zone, zulu, small_zulu, ahead, behind}
use Rattle.sm_time.proofs.DigitFacts.{digit_small}
use Rattle.sm_time.specs.StampTexts.{is_stamp, is_date, is_civil, is_zone, are_digits, is_int, is_form, is_whole_millis}

pub and_first : (a b : Bool) → (a && b) ≡ true → a ≡ true
and_first true b h = refl
and_first false b h = h

pub and_second : (a b : Bool) → (a && b) ≡ true → b ≡ true
and_second true b h = h
and_second false b h = absurd cc

at_most : (a b : ℕ) → Decides (nat_le a b) (a ≤ b)
at_most a b = (λ h. grind (arith, nat_tests), λ h. grind (arith, nat_tests))

holds_if : (b : Bool) → T b → b ≡ true
holds_if true h = refl
holds_if false h = absurd h

pub at_most_int : (y z : ℤ) → Decides (int_le y z) (y ≤ℤ z)
at_most_int y z = (λ h. record { le = subst T (sym h) tt }, λ h. holds_if (int_le y z) h.le)

pub stamp_decides : (ms : ℤ) → Decides (is_stamp ms) (IsStamp ms)
stamp_decides ms =
    Decides-and (int_le (neg_ℤ (pos 62_167_219_200_000)) ms) (int_le ms (pos 253_402_300_799_999))
    (at_most_int (neg_ℤ (pos 62_167_219_200_000)) ms) (at_most_int ms (pos 253_402_300_799_999))

date_decides : (d : Date) → Decides (is_date d) (IsDate d)
date_decides d =
    let days = at_most d.day (days_in_month d.year d.month) in
    let from_one = Decides-and (nat_le 1 d.day) (nat_le d.day (days_in_month d.year d.month)) (at_most 1 d.day) days in
    let months = Decides-and (nat_le d.month 12) (nat_le 1 d.day && nat_le d.day (days_in_month d.year d.month))
    (at_most d.month 12) from_one in
    let first =
    Decides-and (nat_le 1 d.month) (nat_le d.month 12 && (nat_le 1 d.day && nat_le d.day (days_in_month d.year d.month)))
    (at_most 1 d.month) months in
    let all =
    Decides-and (nat_le d.year 9999)
    (nat_le 1 d.month && (nat_le d.month 12 && (nat_le 1 d.day && nat_le d.day (days_in_month d.year d.month))))
    (at_most d.year 9999) first in
    Decides-like (is_date d) (λ h. (h.0, h.1.0, h.1.1.0, h.1.1.1.0, h.1.1.1.1)) (λ h. (h.0, (h.1, (h.2, (h.3, h.4))))) all

civil_decides : (d : Civil) → Decides (is_civil d) (IsCivil d)
civil_decides d =
    let seconds = Decides-and (nat_lt d.minute 60) (nat_lt d.second 60) (Decides-ltb d.minute 60) (Decides-ltb d.second 60) in
    let hours = Decides-and (nat_lt d.hour 24) (nat_lt d.minute 60 && nat_lt d.second 60) (Decides-ltb d.hour 24) seconds in
    let all = Decides-and (is_date (date_in d)) (nat_lt d.hour 24 && (nat_lt d.minute 60 && nat_lt d.second 60))
    (date_decides (date_in d)) hours in
    Decides-like (is_civil d) (λ h. (h.0, h.1.0, h.1.1.0, h.1.1.1)) (λ h. (h.0, (h.1, (h.2, h.3)))) all

zone_decides : (z : Zone) → Decides (is_zone z) (IsZone z)
zone_decides zulu = (λ h. tt, λ h. refl)
zone_decides small_zulu = (λ h. tt, λ h. refl)
zone_decides (ahead h m) = Decides-and (nat_lt h 24) (nat_lt m 60) (Decides-ltb h 24) (Decides-ltb m 60)
zone_decides (behind h m) = Decides-and (nat_lt h 24) (nat_lt m 60) (Decides-ltb h 24) (Decides-ltb m 60)

digit_large : (c : ℕ) → is_ascii_digit c ≡ false → 10 ≤ digit_value c
digit_large c h = grind (arith, nat_tests)

not_large : (b : Bool) (c : ℕ) → is_ascii_digit c ≡ b → digit_value c < 10 → b ≡ true
not_large true c e h = refl
not_large false c e h = let large = digit_large c e in absurd (omega (arith, large, h))

digit_decides : (c : ℕ) → Decides (is_ascii_digit c) (digit_value c < 10)
digit_decides c = (digit_small c, not_large (is_ascii_digit c) c refl)

pub digits_decide : (ds : List ℕ) → Decides (are_digits ds) (AllDigits 10 ds)
digits_decide [] = (λ h. tt, λ h. refl)
digits_decide (d ∷ ds) = Decides-and (is_ascii_digit d) (are_digits ds) (digit_decides d) (digits_decide ds)

not_zero : (b : Bool) → not b ≡ true → b ≡ true → ⊥
not_zero true h g = cc
not_zero false h g = cc

zero_false : (b : Bool) → (b ≡ true → ⊥) → not b ≡ true
zero_false true h = absurd (h refl)
zero_false false h = refl

both_parts : (a b : Bool) → (a && b) ≡ true → (a ≡ true) × (b ≡ true)
both_parts true b h = (refl, h)
both_parts false b h = absurd cc

both_true : (a b : Bool) → a ≡ true → b ≡ true → (a && b) ≡ true
both_true a b h g = ap (λ c. c && b) h ∙ g

int_says : (ds : List ℕ) → is_int ds ≡ true → IsIntDigits ds
int_says [] h = absurd cc
int_says (d ∷ []) h = ((omega arith, (digit_small d h, tt)), λ e. refl)
int_says (d ∷ e ∷ ds) h =
    let parts = both_parts (not (d == digit_zero)) (are_digits (d ∷ e ∷ ds)) h in (
      (omega arith, (digits_decide (d ∷ e ∷ ds)).0 parts.1),
      λ zero. absurd (not_zero (d == digit_zero) parts.0 ((Decides-eqb d digit_zero).1 zero)),
    )

longer_than_one : (d e : ℕ) (ds : List ℕ) → length (d ∷ e ∷ ds) ≡ 1 → ⊥
longer_than_one d e ds h = omega (arith, h)

says_int : (ds : List ℕ) → IsIntDigits ds → is_int ds ≡ true
says_int [] h = absurd (omega (arith, h.0.0))
says_int (d ∷ []) h = (digit_decides d).1 h.0.1.0
says_int (d ∷ e ∷ ds) h =
    both_true (not (d == digit_zero)) (are_digits (d ∷ e ∷ ds))
    (zero_false (d == digit_zero) (λ zero. longer_than_one d e ds (h.1 ((Decides-eqb d digit_zero).0 zero))))
    ((digits_decide (d ∷ e ∷ ds)).1 h.0.1)

int_decides : (ds : List ℕ) → Decides (is_int ds) (IsIntDigits ds)
int_decides ds = (int_says ds, says_int ds)

letter_decides : (letter : ℕ) → Decides ((letter == capital_t) || (letter == small_t)) (IsLetter letter)
letter_decides letter =
    Decides-or (letter == capital_t) (letter == small_t) (Decides-eqb letter capital_t) (Decides-eqb letter small_t)

no_form : {P : Type 0} → (P → ⊥) → Decides false P
no_form none = (λ h. absurd cc, λ h. absurd (none h))

pub form_decides : (format : Format) (form : Form) → Decides (is_form format form) (IsStampForm format form)
form_decides DateTime (clock_form letter d digits zone) =
    let tail = Decides-and (are_digits digits) (is_zone zone) (digits_decide digits) (zone_decides zone) in
    let rest = Decides-and (is_civil d) (are_digits digits && is_zone zone) (civil_decides d) tail in
    let all =
    Decides-and ((letter == capital_t) || (letter == small_t)) (is_civil d && (are_digits digits && is_zone zone))
    (letter_decides letter) rest in
    Decides-like (is_form DateTime (clock_form letter d digits zone)) (λ h. (h.0, h.1.0, h.1.1.0, h.1.1.1))
    (λ h. (h.0, (h.1, (h.2, h.3)))) all
form_decides DateTime (gmt_form d) = no_form (λ h. h)
form_decides DateTime (seconds_form n i ds) = no_form (λ h. h)
form_decides HttpDate (gmt_form d) = Decides-and (is_civil d) (nat_le 1970 d.year) (civil_decides d) (at_most 1970 d.year)
form_decides HttpDate (clock_form l d ds z) = no_form (λ h. h)
form_decides HttpDate (seconds_form n i ds) = no_form (λ h. h)
form_decides EpochSeconds (seconds_form n i ds) = Decides-and (is_int i) (are_digits ds) (int_decides i) (digits_decide ds)
form_decides EpochSeconds (clock_form l d ds z) = no_form (λ h. h)
form_decides EpochSeconds (gmt_form d) = no_form (λ h. h)

pub millis_decide : (digits : List ℕ) → Decides (is_whole_millis digits) (IsWholeMillis digits)
millis_decide digits =
    Decides-by_and (λ d. d == digit_zero) (λ d. d ≡ digit_zero) (list_all (λ d. d == digit_zero)) (λ d. Decides-eqb d digit_zero) refl
    (λ d ds. refl) (drop 3 digits)
