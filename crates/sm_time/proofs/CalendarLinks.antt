-- The days of `jiff_core` and of `httpdate` are those of this crate's calendar.
use Rattle.std.proofs.Common.{◌≡◌, ℕ, zero, suc, ◌+◌, ◌-◌, ◌≤◌, refl, sym, ap, subst, ◌∙◌, arith, ℤ, pos, negsuc, ◌+ℤ◌, ◌-ℤ◌, ◌≤ℤ◌}
use Rattle.std.proofs.Common.{unsigned_abs, to_z, of_z, w8, w16}
use Rattle.std.proofs.lemmas.Int.{to_z_pos}
use Rattle.jiff_core.specs.declared.civil.date.Date.{Date as JiffDate}
use Rattle.jiff_core.specs.Date.{epoch_day, IsYmd}
use Rattle.jiff_core.specs.Calendar.{IsYear, IsCivilDate, day_count as jiff_count, days_of_years as jiff_years}
use Rattle.jiff_core.specs.Calendar.{days_of_months as jiff_months}
use Rattle.jiff_core.proofs.MarchLemmas.{days_of_years-march_days}
use Rattle.jiff_core.proofs.CalendarLemmas.{days_from_civil-day_count, day_count-lt_year}
use Rattle.jiff_core.proofs.DateLemmas.{civil}
use Rattle.jiff_core.proofs.SignedLemmas.{signed_arith, back_small}
use Rattle.httpdate.specs.Calendar.{days_of_years as http_years, days_of_months as http_months, days_from_civil as http_days}
use Rattle.sm_time.specs.Calendar.{Date, IsDate, days_in_month, days_before_year, days_of_months, day_count, date_of}
use Rattle.sm_time.proofs.CalendarFacts.{IsDay, day_of, date_of_days}

-- `jiff_core`'s months have the same days
jiff_months_are : (y n : ℕ) → jiff_months (pos y) n ≡ days_of_months y n
unfolding jiff_months days_of_months
jiff_months_are y zero = refl
jiff_months_are y (suc n) = ap (λ k. k + days_in_month y (suc n)) (jiff_months_are y n)

-- `jiff_core` counts from the year -10000
jiff_years_are : (y : ℕ) → jiff_years (y + 10000) ≡ days_before_year y + 3_652_425
unfolding jiff_years days_before_year
jiff_years_are zero = omega (arith, days_of_years-march_days 10000)
jiff_years_are (suc y) =
    let next : suc y + 10000 ≡ suc (y + 10000) = omega arith in
    let year : pos (y + 10000) -ℤ pos 10000 ≡ pos y = omega (arith, signed_arith) in
    rw (next, year) (omega (arith, jiff_years_are y))

-- and its count is this one, from the year 0
jiff_count_is : (d : Date) → IsDay d → jiff_count (pos d.year) d.month d.day ≡ day_count d + 3_652_425
unfolding jiff_count
jiff_count_is d h = omega (arith, jiff_years_are d.year, jiff_months_are d.year (d.month - 1), h.first_day)

-- the days of `jiff_core`'s date, from its first
jiff_days : (date : JiffDate) (n : ℕ) → epoch_day date +ℤ pos 4_371_587 ≡ pos n → jiff_count date.year date.month date.day ≡ n + 366
jiff_days date n e = omega (arith, signed_arith, days_from_civil-day_count date.year date.month date.day)

-- no year comes before the year 0
year_0 : days_before_year 0 ≡ 0
unfolding days_before_year
year_0 = refl

-- nor a month before its first
months_0 : days_of_months 0 0 ≡ 0
unfolding days_of_months
months_0 = refl

-- the count of 1 January of the year 0
first_count : jiff_count (pos 0) 1 1 ≡ 3_652_425
first_count =
    let first : IsDay (record { year = 0; month = 1; day = 1 }) =
    record { first_month = omega arith; last_month = omega arith; first_day = omega arith; last_day = omega arith } in
    jiff_count_is (record { year = 0; month = 1; day = 1 }) first ∙ omega (arith, year_0, months_0)

-- a date of that count, in plain variables
date_at : (y : ℤ) (m d n : ℕ) → IsCivilDate y m d → jiff_count y m d ≡ n + 3_652_425
    → (pos 0 ≤ℤ y) × (date_of n ≡ record { year = unsigned_abs y; month = m; day = d })
date_at (pos a) m d n h e =
    let day : IsDay (record { year = a; month = m; day = d }) =
    record { first_month = h.1.0; last_month = h.1.1; first_day = h.2.0; last_day = h.2.1 } in
    let same : n ≡ day_count (record { year = a; month = m; day = d }) =
    omega (arith, e, jiff_count_is (record { year = a; month = m; day = d }) day) in
    (omega (arith, signed_arith), ap date_of same ∙ date_of_days _ day)
date_at (negsuc a) m d n h e = absurd (omega
    (arith, e, first_count, day_count-lt_year (negsuc a) m d (pos 0) 1 1 h (omega arith) (omega (arith, signed_arith))))

-- the date so many days after the first of the year 0
pub jiff_date_at : (date : JiffDate) (n : ℕ) → epoch_day date +ℤ pos 4_371_587 ≡ pos (3_652_059 + n)
    → (pos 0 ≤ℤ date.year) × (date_of n ≡ record { year = unsigned_abs date.year; month = date.month; day = date.day })
jiff_date_at date n e = date_at date.year date.month date.day n (civil date) (jiff_days date (3_652_059 + n) e ∙ omega arith)

-- the days of `jiff_core`'s date, from the first of the year 0
pub jiff_days_of : (date : JiffDate) (d : Date) (n : ℕ) → epoch_day date +ℤ pos 4_371_587 ≡ pos n → date.year ≡ pos d.year
    → date.month ≡ d.month → date.day ≡ d.day → IsDate d → n ≡ 3_652_059 + day_count d
jiff_days_of date d n e year month day h =
    let count : jiff_count (pos d.year) d.month d.day ≡ n + 366 = rw (← year, ← month, ← day) (jiff_days date n e) in
    omega (arith, count, jiff_count_is d (day_of d h))

-- `jiff_core`'s years have four digits
pub small_year : (y : ℤ) → IsYear y → unsigned_abs y ≤ 9999
small_year (pos a) h = omega (arith, signed_arith)
small_year (negsuc a) h = omega (arith, signed_arith)

-- a year of `jiff_core` comes back from 16 bits
pub year_back : (date : JiffDate) → to_z w16 (of_z w16 date.year) ≡ date.year
year_back date = back_small w16 date.year (omega (arith, small_year date.year (civil date).0))

-- a date that `jiff_core` has, made of numbers in few bits
pub date_shown : (date : JiffDate) (d : Date) (n : ℕ) → d.year ≤ 9999 → d.month ≤ 12 → d.day ≤ 31
    → IsYmd (to_z w16 d.year) (to_z w8 d.month) (to_z w8 d.day) date → epoch_day date +ℤ pos 4_371_587 ≡ pos n
    → IsDate d × (n ≡ 3_652_059 + day_count d)
date_shown date d n y31 m31 d31 shown e =
    let year : date.year ≡ pos d.year = shown.0 ∙ to_z_pos w16 d.year (omega arith) in
    let month : date.month ≡ d.month = ap unsigned_abs (shown.1 ∙ to_z_pos w8 d.month (omega arith)) in
    let day : date.day ≡ d.day = ap unsigned_abs (shown.2 ∙ to_z_pos w8 d.day (omega arith)) in
    let there : IsCivilDate (pos d.year) d.month d.day = let of : ℤ → ℕ → ℕ
    → Type 0 = IsCivilDate in subst (λ y. of y d.month d.day) year (rw (← month, ← day) (civil date)) in
    let is : IsDate d = (y31, there.1.0, there.1.1, there.2.0, there.2.1) in
    (is, jiff_days_of date d n e year month day is)

-- `httpdate`'s months have the same days
http_months_are : (y n : ℕ) → http_months y n ≡ days_of_months y n
unfolding http_months days_of_months
http_months_are y zero = refl
http_months_are y (suc n) = ap (λ k. k + days_in_month y (suc n)) (http_months_are y n)

-- the days before the year 1970
pub days_before_1970 : days_before_year 1970 ≡ 719_528
unfolding days_before_year
days_before_1970 = refl

-- `httpdate` counts from the year 1970
http_years_are : (n : ℕ) → http_years n + 719_528 ≡ days_before_year (1970 + n)
unfolding http_years days_before_year
http_years_are zero = sym days_before_1970
http_years_are (suc n) =
    let next : 1970 + suc n ≡ suc (1970 + n) = omega arith in
    rw next (omega (arith, http_years_are n))

-- its days are counted from 1970
pub http_days_are : (d : Date) → 1970 ≤ d.year → http_days d.year d.month d.day + 719_528 ≡ day_count d
http_days_are d h =
    let same : 1970 + (d.year - 1970) ≡ d.year = omega arith in
    omega (arith, rw same at (http_years_are (d.year - 1970)), http_months_are d.year (d.month - 1))

-- the days of the years of at most four digits
pub four_digit_years : days_before_year 10000 ≡ 3_652_425
four_digit_years = omega (arith, jiff_years_are 10000, days_of_years-march_days 20000)
