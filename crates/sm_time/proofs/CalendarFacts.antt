-- The calendar's two definitions agree, and so do those of `jiff_core` and `httpdate`.
use Rattle.std.proofs.Common.{◌≡◌, ℕ, zero, suc, ◌+◌, ◌-◌, ◌<◌, ◌≤◌, Bool, true, false, nat_lt, refl, ap, ◌∙◌, arith}
use Rattle.std.proofs.lemmas.Bool.{cases_order}
use Rattle.std.proofs.lemmas.Bool.Decides.{nat_tests}
use Rattle.sm_time.specs.Calendar.{Date, IsDate, days_in_year, days_in_month, days_before_year, days_of_months, day_count, next_day}
use Rattle.sm_time.specs.Calendar.{date_of}

-- a day of any year
pub record IsDay (d : Date) : Type 0 where
  pub first_month : 1 ≤ d.month
  pub last_month : d.month ≤ 12
  pub first_day : 1 ≤ d.day
  pub last_day : d.day ≤ days_in_month d.year d.month

-- a month more
days_of_months_more : (y m : ℕ) → 1 ≤ m → days_of_months y m ≡ days_of_months y (m - 1) + days_in_month y m
unfolding days_of_months
days_of_months_more y zero h = absurd (omega arith)
days_of_months_more y (suc m) h = let back : suc m - 1 ≡ m = omega arith in rw back

-- no month has no days
days_of_months_zero : (y : ℕ) → days_of_months y 0 ≡ 0
unfolding days_of_months
days_of_months_zero y = refl

-- the months make the year
days_of_months_all : (y : ℕ) → days_of_months y 12 ≡ days_in_year y
unfolding days_of_months
days_of_months_all y = grind arith

-- more months have no fewer days
days_of_months_mono : (y m k : ℕ) → days_of_months y m ≤ days_of_months y (m + k)
unfolding days_of_months
days_of_months_mono y m zero = let same : m + 0 ≡ m = omega arith in rw same (omega arith)
days_of_months_mono y m (suc k) =
    let before = days_of_months_mono y m k in
    let next : m + suc k ≡ suc (m + k) = omega arith in
    rw next (omega arith)

-- a day lies before each later month of its year
before_month : (y m d later : ℕ) → 1 ≤ m → 1 ≤ d → d ≤ days_in_month y m → m ≤ later
    → days_of_months y (m - 1) + (d - 1) < days_of_months y later
before_month y m d later low first last h =
    let up = days_of_months_mono y m (later - m) in
    let same : m + (later - m) ≡ later = omega arith in
    omega (arith, days_of_months_more y m low, rw same at up)

-- a year more
days_before_year_suc : (y : ℕ) → days_before_year (suc y) ≡ days_before_year y + days_in_year y
unfolding days_before_year
days_before_year_suc y = refl

-- a later year has no fewer days before it
pub days_before_year_mono : (y k : ℕ) → days_before_year y ≤ days_before_year (y + k)
days_before_year_mono y zero = let same : y + 0 ≡ y = omega arith in rw same (omega arith)
days_before_year_mono y (suc k) =
    let next : y + suc k ≡ suc (y + k) = omega arith in
    rw next (omega (arith, days_before_year_mono y k, days_before_year_suc (y + k)))

-- a day lies before the next year and all after it
pub before_year : (d : Date) (later : ℕ) → IsDay d → d.year < later → day_count d < days_before_year later
before_year d later h lt =
    let up = days_before_year_mono (suc d.year) (later - d.year - 1) in
    let same : suc d.year + (later - d.year - 1) ≡ later = omega arith in
    let inside = before_month d.year d.month d.day 12 h.first_month h.first_day h.last_day h.last_month in
    omega (arith, rw same at up, inside, days_of_months_all d.year, days_before_year_suc d.year)

-- the place in the year has the month and the day
same_month : (y m d n e : ℕ) → 1 ≤ m → 1 ≤ d → d ≤ days_in_month y m → 1 ≤ n → 1 ≤ e → e ≤ days_in_month y n
    → days_of_months y (m - 1) + (d - 1) ≡ days_of_months y (n - 1) + (e - 1) → m ≡ n
same_month y m d n e lm ld hd ln le he same =
    grind (arith, cases_order m n, before_month y m d (n - 1) lm ld hd, before_month y n e (m - 1) ln le he)

-- two days with one count are one day
pub one_day : (a b : Date) → IsDay a → IsDay b → day_count a ≡ day_count b → a ≡ b
one_day a b h k e =
    let year : a.year ≡ b.year = grind (arith, cases_order a.year b.year, before_year a b.year h, before_year b a.year k) in
    let places : days_of_months a.year (a.month - 1) + (a.day - 1) ≡ days_of_months a.year (b.month - 1) + (b.day - 1) =
    omega (arith, ap (λ y. days_before_year y) year, ap (λ y. days_of_months y (b.month - 1)) year) in
    let last : b.day ≤ days_in_month a.year b.month = rw year k.last_day in
    let month = same_month a.year a.month a.day b.month b.day h.first_month h.first_day h.last_day k.first_month k.first_day last places in
    let day : a.day ≡ b.day = omega (arith, ap (λ m. days_of_months a.year (m - 1)) month, places, h.first_day, k.first_day) in
    λ i. record { year = year i; month = month i; day = day i }

-- the first day is a day
first_day : IsDay (date_of 0)
unfolding date_of
first_day = record { first_month = omega arith; last_month = omega arith; first_day = omega arith; last_day = omega arith }

-- and has no day before it
first_count : day_count (date_of 0) ≡ 0
unfolding date_of days_before_year days_of_months
first_count = refl

-- each month has a day
days_bound : (y m : ℕ) → 1 ≤ days_in_month y m
days_bound y m = grind arith

-- what the test of `<` says where it holds
under : (m n : ℕ) → nat_lt m n ≡ true → m < n
under m n h = grind (arith, nat_tests)

-- and where it fails
not_under : (m n : ℕ) → nat_lt m n ≡ false → n ≤ m
not_under m n h = grind (arith, nat_tests)

-- the day after is a day, and the next one
next_day_is : (d : Date) (a b : Bool) → nat_lt d.day (days_in_month d.year d.month) ≡ a → nat_lt d.month 12 ≡ b → IsDay d
    → IsDay (next_day d) × (day_count (next_day d) ≡ day_count d + 1)
next_day_is d true b e f h =
    let more = under _ _ e in
    rw e (
      record { first_month = h.first_month; last_month = h.last_month; first_day = omega arith; last_day = omega (arith, more) },
      omega
          (arith, h.first_day),
    )
next_day_is d false true e f h =
    let last : d.day ≡ days_in_month d.year d.month = omega (arith, not_under _ _ e, h.last_day) in
    let same : d.month + 1 - 1 ≡ d.month = omega arith in
    let less = under _ _ f in
    rw (e, f) (
      record {
        first_month = omega arith;
        last_month = omega (arith, less);
        first_day = omega arith;
        last_day =
            days_bound d.year (d.month + 1);
      },
      rw same (omega (arith, last, h.first_day, days_of_months_more d.year d.month h.first_month)),
    )
next_day_is d false false e f h =
    let last : d.day ≡ days_in_month d.year d.month = omega (arith, not_under _ _ e, h.last_day) in
    let december : d.month ≡ 12 = omega (arith, not_under _ _ f, h.last_month) in
    let next : d.year + 1 ≡ suc d.year = omega arith in
    rw (e, f) (
      record { first_month = omega arith; last_month = omega arith; first_day = omega arith; last_day = days_bound (d.year + 1) 1 },
      rw next (omega (
        arith,
        last,
        h.first_day,
        days_before_year_suc d.year,
        days_of_months_zero (suc d.year),
        days_of_months_all d.year,
        days_of_months_more d.year d.month h.first_month,
        ap (λ m. days_of_months d.year m) december,
      )),
    )

-- the date after so many days is a day, and has that count
pub days_of_date : (n : ℕ) → IsDay (date_of n) × (day_count (date_of n) ≡ n)
unfolding date_of
days_of_date zero = (first_day, first_count)
days_of_date (suc n) =
    let before = days_of_date n in
    let next = next_day_is (date_of n) _ _ refl refl before.0 in
    (next.0, next.1 ∙ omega (arith, before.1))

-- a date of the years of four digits is a day
pub day_of : (d : Date) → IsDate d → IsDay d
day_of d h = record { first_month = h.1; last_month = h.2; first_day = h.3; last_day = h.4 }

-- a date is the one after its count of days
pub date_of_days : (d : Date) → IsDay d → date_of (day_count d) ≡ d
date_of_days d h =
    let there = days_of_date (day_count d) in
    one_day (date_of (day_count d)) d there.0 h there.1
