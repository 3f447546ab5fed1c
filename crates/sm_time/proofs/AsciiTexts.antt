-- The texts of stamps are ASCII, so they are texts.
use Rattle.std.proofs.Common.{◌≡◌, inl, inr, ℕ, zero, suc, ◌<◌, ◌≤◌, ◌+◌, ◌-◌, ◌/◌, ◌%◌, ℤ, Bool, true, false, List, [], ◌∷◌, ◌++◌, sym}
use Rattle.std.proofs.Common.{subst, refl, arith}
use Rattle.std.specs.Prelude.{nat_lt, slice_index_or, codes, IsAscii, IsUtf8, if◌then◌else◌}
use Rattle.std.specs.List.{list_all}
use Rattle.std.specs.Str.Parse.{AllDigits}
use Rattle.std.proofs.lemmas.Bool.Decides.{Decides-ltb}
use Rattle.std.proofs.lemmas.Fmt.{IsAscii-from_digits}
use Rattle.std.proofs.lemmas.Str.{IsAscii-append, IsUtf8-from_ascii}
use Rattle.std.proofs.lemmas.Str.Ascii.{IsAscii-nil, IsAscii-cons}
use Rattle.sm_bytes.specs.Ascii.{digit_zero, full_stop}
use Rattle.sm_time.specs.declared.format.Format.{Format}
use Rattle.sm_time.specs.declared.format.Format.TheVariants.{DateTime, HttpDate, EpochSeconds}
use Rattle.sm_time.specs.declared.civil.Civil.{Civil}
use Rattle.sm_time.specs.Calendar.{weekday, day_count, days_in_month}
use Rattle.sm_time.specs.Civil.{IsCivil, date_in, two_digits, four_digits, full_date, time_of_day, clock_text, day_name, month_name}
use Rattle.sm_time.specs.Civil.{imf_fixdate}
use Rattle.sm_time.specs.TimeText.{Form, clock_form, gmt_form, seconds_form, IsStampForm, IsLetter, IsZone, IsStamp, form_text}
use Rattle.sm_time.specs.TimeText.{fraction_text, zone_text, Zone, zulu, small_zulu, ahead, behind}
use Rattle.sm_time.specs.Written.{written_stamp, IsWritable}
use Rattle.sm_time.proofs.StampForms.{and_first, and_second}
use Rattle.sm_time.proofs.StampClocks.{month_days}
use Rattle.sm_time.proofs.WrittenTexts.{written_is_text}

-- a test, so that of bytes that are given it computes
abbrev all_ascii : List ℕ → Bool
all_ascii bs = list_all (λ b. nat_lt b 128) bs

ascii_where : (bs : List ℕ) → all_ascii bs ≡ true → IsAscii bs
ascii_where [] h = IsAscii-nil
ascii_where (b ∷ bs) h =
    IsAscii-cons b bs ((Decides-ltb b 128).0 (and_first (nat_lt b 128) (all_ascii bs) h))
    (ascii_where bs (and_second (nat_lt b 128) (all_ascii bs) h))

name_ascii : (names : List (List ℕ)) (i : ℕ) → list_all all_ascii names ≡ true → IsAscii (slice_index_or names i [])
name_ascii [] i h = IsAscii-nil
name_ascii (n ∷ ns) zero h = ascii_where n (and_first (all_ascii n) (list_all all_ascii ns) h)
name_ascii (n ∷ ns) (suc i) h = name_ascii ns i (and_second (all_ascii n) (list_all all_ascii ns) h)

two_ascii : (n : ℕ) → n < 100 → IsAscii (two_digits n)
two_ascii n h = IsAscii-cons (digit_zero + n / 10) ((digit_zero + n % 10) ∷ []) (omega (arith, h))
    (IsAscii-cons (digit_zero + n % 10) [] (omega (arith, h)) IsAscii-nil)

four_ascii : (n : ℕ) → n ≤ 9999 → IsAscii (four_digits n)
four_ascii n h = IsAscii-append (two_digits (n / 100)) (two_digits (n % 100)) (two_ascii (n / 100) (omega (arith, h)))
    (two_ascii (n % 100) (omega (arith, h)))

small_day : (n m : ℕ) → n ≤ m → m < 100 → n < 100
small_day n m h g = omega (arith, h, g)

below_100 : (n k : ℕ) → n < k → k ≤ 60 → n < 100
below_100 n k h g = omega (arith, h, g)

abbrev dash : List ℕ
dash = codes "-"

abbrev colon : List ℕ
colon = codes ":"

abbrev blank : List ℕ
blank = codes " "

-- with a separator between
three_ascii : (xs s ys : List ℕ) → all_ascii s ≡ true → IsAscii xs → IsAscii ys → IsAscii (xs ++ s ++ ys)
three_ascii xs s ys e h g = IsAscii-append (xs ++ s) ys (IsAscii-append xs s h (ascii_where s e)) g

date_ascii : (c : Civil) → IsCivil c → IsAscii (full_date c)
date_ascii c h =
    three_ascii (four_digits c.year ++ dash ++ two_digits c.month) dash (two_digits c.day) refl
    (three_ascii (four_digits c.year) dash (two_digits c.month) refl (four_ascii c.year h.0.0)
    (two_ascii c.month (small_day c.month 12 h.0.2 (omega arith))))
    (two_ascii c.day (small_day c.day (days_in_month c.year c.month) h.0.4 (month_days c.year c.month)))

day_time_ascii : (c : Civil) → IsCivil c → IsAscii (time_of_day c)
day_time_ascii c h =
    three_ascii (two_digits c.hour ++ colon ++ two_digits c.minute) colon (two_digits c.second) refl
    (three_ascii (two_digits c.hour) colon (two_digits c.minute) refl (two_ascii c.hour (below_100 c.hour 24 h.1 (omega arith)))
    (two_ascii c.minute (below_100 c.minute 60 h.2 (omega arith))))
    (two_ascii c.second (below_100 c.second 60 h.3 (omega arith)))

letter_ascii : (b : ℕ) → IsLetter b → b < 128
letter_ascii b (inl e) = subst (λ x. x < 128) (sym e) (omega arith)
letter_ascii b (inr e) = subst (λ x. x < 128) (sym e) (omega arith)

fraction_ascii : (ds : List ℕ) → AllDigits 10 ds → IsAscii (fraction_text ds)
fraction_ascii [] h = IsAscii-nil
fraction_ascii (d ∷ ds) h = IsAscii-cons full_stop (d ∷ ds) (omega arith) (IsAscii-from_digits (d ∷ ds) h)

hours_ascii : (s : List ℕ) (h m : ℕ) → all_ascii s ≡ true → h < 24 → m < 60 → IsAscii (s ++ two_digits h ++ colon ++ two_digits m)
hours_ascii s h m e i j =
    three_ascii (s ++ two_digits h) colon (two_digits m) refl
    (IsAscii-append s (two_digits h) (ascii_where s e) (two_ascii h (below_100 h 24 i (omega arith))))
    (two_ascii m (below_100 m 60 j (omega arith)))

zone_ascii : (z : Zone) → IsZone z → IsAscii (zone_text z)
zone_ascii zulu h = ascii_where (codes "Z") refl
zone_ascii small_zulu h = ascii_where (codes "z") refl
zone_ascii (ahead h m) g = hours_ascii (codes "+") h m refl g.0 g.1
zone_ascii (behind h m) g = hours_ascii (codes "-") h m refl g.0 g.1

abbrev days : List (List ℕ)
days = codes "Mon" ∷ codes "Tue" ∷ codes "Wed" ∷ codes "Thu" ∷ codes "Fri" ∷ codes "Sat" ∷ codes "Sun" ∷ []

abbrev months : List (List ℕ)
months =
    codes "Jan" ∷ codes "Feb" ∷ codes "Mar" ∷ codes "Apr" ∷ codes "May" ∷ codes "Jun" ∷ codes "Jul" ∷ codes "Aug" ∷ codes "Sep"
    ∷ codes "Oct" ∷ codes "Nov" ∷ codes "Dec" ∷ []

gmt_ascii : (c : Civil) → IsCivil c → IsAscii (imf_fixdate c)
gmt_ascii c h =
    let day = day_name (weekday (day_count (date_in c))) in
    let d = two_digits c.day in
    let m = month_name c.month in
    let y = four_digits c.year in
    IsAscii-append (day ++ codes ", " ++ d ++ blank ++ m ++ blank ++ y ++ blank ++ time_of_day c) (codes " GMT")
    (three_ascii (day ++ codes ", " ++ d ++ blank ++ m ++ blank ++ y) blank (time_of_day c) refl
    (three_ascii (day ++ codes ", " ++ d ++ blank ++ m) blank y refl
    (three_ascii (day ++ codes ", " ++ d) blank m refl
    (three_ascii day (codes ", ") d refl (name_ascii days (weekday (day_count (date_in c))) refl)
    (two_ascii c.day (small_day c.day (days_in_month c.year c.month) h.0.4 (month_days c.year c.month))))
    (name_ascii months (c.month - 1) refl)) (four_ascii c.year h.0.0)) (day_time_ascii c h)) (ascii_where (codes " GMT") refl)

minus_ascii : (b : Bool) → IsAscii (if b then codes "-" else [])
minus_ascii true = ascii_where (codes "-") refl
minus_ascii false = IsAscii-nil

form_ascii : (format : Format) (f : Form) → IsStampForm format f → IsAscii (form_text f)
form_ascii DateTime (clock_form b c ds z) h =
    IsAscii-append (clock_text b c ++ fraction_text ds) (zone_text z)
    (IsAscii-append (clock_text b c) (fraction_text ds)
    (IsAscii-append (full_date c) (b ∷ time_of_day c) (date_ascii c h.1)
    (IsAscii-cons b (time_of_day c) (letter_ascii b h.0) (day_time_ascii c h.1))) (fraction_ascii ds h.2)) (zone_ascii z h.3)
form_ascii HttpDate (gmt_form c) h = gmt_ascii c h.0
form_ascii EpochSeconds (seconds_form b i ds) h =
    IsAscii-append ((if b then codes "-" else []) ++ i) (fraction_text ds)
    (IsAscii-append (if b then codes "-" else []) i (minus_ascii b) (IsAscii-from_digits i h.0.0.1)) (fraction_ascii ds h.1)
form_ascii format f h = absurd h

-- so what is written for a stamp is a text
pub written_utf8 : (format : Format) (ms : ℤ) → IsStamp ms → IsWritable format ms → IsUtf8 (written_stamp format ms)
written_utf8 format ms h w =
    let shown = written_is_text format ms h w in
    IsUtf8-from_ascii (written_stamp format ms) (subst IsAscii (sym shown.1.1) (form_ascii format shown.0 shown.1.0))
