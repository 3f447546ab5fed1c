-- A date with a time of day, its seconds from the year 0, and the texts that show it: `full-date`, the letter
-- and `partial-time` of RFC 3339, section 5.6, and IMF-fixdate of RFC 9110, section 5.6.7.
use Rattle.std.specs.Prelude.{ℕ, ◌+◌, ◌-◌, ◌*◌, ◌/◌, ◌%◌, ◌<◌, List, [], ◌∷◌, ◌++◌, slice_index_or, codes}
use Rattle.sm_bytes.specs.Ascii.{digit_zero}
use Rattle.sm_time.specs.declared.civil.Civil.{Civil}
use Rattle.sm_time.specs.Calendar.{Date, IsDate, day_count, date_of, weekday}

-- its date
abbrev pub date_in : Civil → Date
date_in c = record { year = c.year; month = c.month; day = c.day }

-- the calendar has the day and the clock has the time; no leap seconds
abbrev pub IsCivil : Civil → Type 0
IsCivil c = IsDate (date_in c) × (c.hour < 24) × (c.minute < 60) × (c.second < 60)

-- the seconds from 0000-01-01T00:00:00
abbrev pub second_count : Civil → ℕ
second_count c = day_count (date_in c) * 86400 + c.hour * 3600 + c.minute * 60 + c.second

-- what a clock shows so many seconds after 0000-01-01T00:00:00
abbrev pub civil_of : ℕ → Civil
civil_of n =
    let d = date_of (n / 86400) in
    record { year = d.year; month = d.month; day = d.day; hour = n % 86400 / 3600; minute = n % 3600 / 60; second = n % 60 }

-- 2DIGIT, of a number below 100
abbrev pub two_digits : ℕ → List ℕ
two_digits n = (digit_zero + n / 10) ∷ (digit_zero + n % 10) ∷ []

-- 4DIGIT, of a number below 10000
abbrev pub four_digits : ℕ → List ℕ
four_digits n = two_digits (n / 100) ++ two_digits (n % 100)

-- `2000-02-29`
abbrev pub full_date : Civil → List ℕ
full_date c = four_digits c.year ++ codes "-" ++ two_digits c.month ++ codes "-" ++ two_digits c.day

-- `08:49:37`
abbrev pub time_of_day : Civil → List ℕ
time_of_day c = two_digits c.hour ++ codes ":" ++ two_digits c.minute ++ codes ":" ++ two_digits c.second

-- `2000-02-29T08:49:37`, with the letter that stands between
abbrev pub clock_text : ℕ → Civil → List ℕ
clock_text letter c = full_date c ++ letter ∷ time_of_day c

-- day-name, from 0 for Monday
abbrev pub day_name : ℕ → List ℕ
day_name day =
    slice_index_or (codes "Mon" ∷ codes "Tue" ∷ codes "Wed" ∷ codes "Thu" ∷ codes "Fri" ∷ codes "Sat" ∷ codes "Sun" ∷ []) day []

-- month, from 1
abbrev pub month_name : ℕ → List ℕ
month_name month =
    slice_index_or
    (codes "Jan" ∷ codes "Feb" ∷ codes "Mar" ∷ codes "Apr" ∷ codes "May" ∷ codes "Jun" ∷ codes "Jul" ∷ codes "Aug" ∷ codes "Sep"
    ∷ codes "Oct" ∷ codes "Nov" ∷ codes "Dec" ∷ [])
    (month - 1) []

-- IMF-fixdate: `Sun, 06 Nov 1994 08:49:37 GMT`, with the weekday of the day
abbrev pub imf_fixdate : Civil → List ℕ
imf_fixdate c =
    day_name (weekday (day_count (date_in c))) ++ codes ", " ++ two_digits c.day ++ codes " " ++ month_name c.month ++ codes " "
    ++ four_digits c.year ++ codes " " ++ time_of_day c ++ codes " GMT"
