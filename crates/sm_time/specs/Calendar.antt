-- The proleptic Gregorian calendar (RFC 3339, section 5.7, appendices B and C): leap years, the lengths of
-- months, and the days counted from 1 January of the year 0.
use Rattle.std.specs.Prelude.{ℕ, zero, suc, ◌+◌, ◌-◌, ◌%◌, ◌≤◌, Bool, not, ◌&&◌, ◌||◌, ◌==◌, nat_lt, if◌then◌else◌}

-- a day of the calendar
pub record Date : Type 0 where
  pub year : ℕ
  pub month : ℕ
  pub day : ℕ

-- every fourth year, but of the years divisible by 100 only those divisible by 400
abbrev pub is_leap_year : ℕ → Bool
is_leap_year y = (y % 4 == 0) && (not (y % 100 == 0) || (y % 400 == 0))

-- the days of a year
abbrev pub days_in_year : ℕ → ℕ
days_in_year y = if is_leap_year y then 366 else 365

-- thirty days have April, June, September and November
abbrev pub days_in_month : ℕ → ℕ → ℕ
days_in_month y m =
    if m == 2 then (if is_leap_year y then 29 else 28)
    else (if (m == 4) || (m == 6) || (m == 9) || (m == 11) then 30 else 31)

-- the days of the years before this one, from the year 0 on
unfoldable pub days_before_year : ℕ → ℕ
days_before_year zero = 0
days_before_year (suc y) = days_before_year y + days_in_year y

-- the days of the first n months of a year
unfoldable pub days_of_months : ℕ → ℕ → ℕ
days_of_months y zero = 0
days_of_months y (suc n) = days_of_months y n + days_in_month y (suc n)

-- the calendar has this day, in a year of at most four digits
abbrev pub IsDate : Date → Type 0
IsDate d = (d.year ≤ 9999) × (1 ≤ d.month) × (d.month ≤ 12) × (1 ≤ d.day) × (d.day ≤ days_in_month d.year d.month)

-- how many days lie between 1 January of the year 0 and the date
abbrev pub day_count : Date → ℕ
day_count d = days_before_year d.year + days_of_months d.year (d.month - 1) + (d.day - 1)

-- the day after
abbrev pub next_day : Date → Date
next_day d =
    if nat_lt d.day (days_in_month d.year d.month) then record { year = d.year; month = d.month; day = d.day + 1 }
    else (if nat_lt d.month 12 then record { year = d.year; month = d.month + 1; day = 1 }
    else record { year = d.year + 1; month = 1; day = 1 })

-- the date so many days after 1 January of the year 0
unfoldable pub date_of : ℕ → Date
date_of zero = record { year = 0; month = 1; day = 1 }
date_of (suc n) = next_day (date_of n)

-- the day of the week, from 0 for Monday; 1 January of the year 0 was a Saturday
abbrev pub weekday : ℕ → ℕ
weekday days = (days + 5) % 7
