-- Seconds and what a clock shows name each other.
use Rattle.std.proofs.Common.{◌≡◌, ℕ, ◌+◌, ◌-◌, ◌*◌, ◌/◌, ◌%◌, ◌<◌, ◌≤◌, inl, inr, ap, ◌∙◌, arith}
use Rattle.std.proofs.lemmas.Bool.{cases_lt}
use Rattle.sm_time.specs.declared.civil.Civil.{Civil}
use Rattle.sm_time.specs.Calendar.{IsDate, day_count, date_of, days_before_year}
use Rattle.sm_time.specs.Civil.{IsCivil, date_in, second_count, civil_of}
use Rattle.sm_time.proofs.CalendarFacts.{day_of, date_of_days, days_of_date, days_before_year_mono}
use Rattle.sm_time.proofs.CalendarLinks.{four_digit_years}

-- the parts of a number of seconds
split_clock : (d h m s : ℕ) → h < 24 → m < 60 → s < 60
    → ((d * 86400 + h * 3600 + m * 60 + s) / 86400 ≡ d) × ((d * 86400 + h * 3600 + m * 60 + s) % 86400 / 3600 ≡ h)
    × ((d * 86400 + h * 3600 + m * 60 + s) % 3600 / 60 ≡ m) × ((d * 86400 + h * 3600 + m * 60 + s) % 60 ≡ s)
split_clock d h m s hour minute second = (omega arith, omega arith, omega arith, omega arith)

-- a clock that the calendar has is what is shown after its seconds
pub civil_of_count : (c : Civil) → IsCivil c → civil_of (second_count c) ≡ c
civil_of_count c h =
    let parts = split_clock (day_count (date_in c)) c.hour c.minute c.second h.1 h.2 h.3 in
    let date = ap date_of parts.0 ∙ date_of_days (date_in c) (day_of (date_in c) h.0) in
    λ i. record {
      year = (date i).year;
      month = (date i).month;
      day = (date i).day;
      hour = parts.1 i;
      minute = parts.2 i;
      second =
          parts.3 i;
    }

-- the year 10000 and all after it lie beyond the last day
far : (y : ℕ) → 9999 < y → 3_652_425 ≤ days_before_year y
far y h =
    let same : 10000 + (y - 10000) ≡ y = omega arith in
    omega (arith, four_digit_years, rw same at (days_before_year_mono 10000 (y - 10000)))

-- the date after so many days lies in the years of four digits
date_is : (n : ℕ) → n < 3_652_425 → IsDate (date_of n)
date_is n h =
    let there = days_of_date n in
    let d = date_of n in
    let year : d.year ≤ 9999 = elim (cases_lt 9999 d.year)
    [ inl late ↦ absurd (omega (arith, far d.year late, there.1)) | inr early ↦ early ] in
    (year, there.0.first_month, there.0.last_month, there.0.first_day, there.0.last_day)

-- what is shown after so many seconds is in the calendar, and has that many
pub civil_is : (n : ℕ) → n < 315_569_520_000 → IsCivil (civil_of n)
civil_is n h = (date_is (n / 86400) (omega arith), omega arith, omega arith, omega arith)

-- and it has that many
pub count_of_civil : (n : ℕ) → second_count (civil_of n) ≡ n
count_of_civil n = omega (arith, (days_of_date (n / 86400)).1)
