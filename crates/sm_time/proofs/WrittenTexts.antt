-- What is written for a stamp is a text of it.
use Rattle.std.proofs.Common.{◌≡◌, inl, inr, ℕ, zero, suc, ◌+◌, ◌*◌, ◌/◌, ◌%◌, ◌^◌, ◌<◌, ◌≤◌, Bool, true, false, List, [], length, take}
use Rattle.std.proofs.Common.{refl, sym, ap, subst, ◌∙◌, arith, ℤ, pos, negsuc, ◌≤ℤ◌, ◌+ℤ◌, ◌-ℤ◌, unsigned_abs, neg_ℤ}
use Rattle.std.proofs.lemmas.Int.{ints}
use Rattle.std.proofs.lemmas.Bool.{cases_lt}
use Rattle.std.proofs.lemmas.Bool.Decides.{nat_tests}
use Rattle.std.proofs.lemmas.Str.{digit_value_digit}
use Rattle.std.proofs.lemmas.Fmt.{decimal_is_IsNumeral, first_decimal, decimal_digit}
use Rattle.std.specs.Prelude.{◌==◌, if◌then◌else◌}
use Rattle.std.specs.Char.{digit_value}
use Rattle.std.specs.Fmt.{decimal}
use Rattle.std.specs.Str.Parse.{AllDigits, digits_value}
use Rattle.sm_time.specs.declared.format.Format.{Format}
use Rattle.sm_time.specs.declared.format.Format.TheVariants.{DateTime, HttpDate, EpochSeconds}
use Rattle.sm_time.specs.Calendar.{date_of}
use Rattle.sm_time.specs.Civil.{civil_of}
use Rattle.sm_time.specs.TimeText.{zulu, clock_form, gmt_form, seconds_form, TimeText, IsWholeMillis, IsStamp, IsIntDigits, thousandths}
use Rattle.sm_time.specs.TimeText.{from_1970}
use Rattle.sm_time.specs.Written.{since_year_0, three_digits, fixed_digits, short_digits, written_stamp, IsWritable}
use Rattle.sm_time.proofs.CalendarFacts.{before_year, days_of_date}
use Rattle.sm_time.proofs.CalendarLinks.{days_before_1970}
use Rattle.sm_time.proofs.Civils.{civil_is, count_of_civil}

-- digits of so many milliseconds
pub record AreMillis (ms : ℕ) (digits : List ℕ) : Type 0 where
  pub are_digits : AllDigits 10 digits
  pub whole : IsWholeMillis digits
  pub value : thousandths digits ≡ ms

-- the value of a written digit
digit_is : (d : ℕ) → d < 10 → digit_value (48 + d) ≡ d
digit_is d h = omega (arith, digit_value_digit (48 + d) (omega arith, omega arith))

-- no digits for 0
no_digits : AreMillis 0 []
no_digits = record { are_digits = tt; whole = λ k z lt. absurd (omega arith); value = refl }

-- one digit for hundreds
one_digit : (n : ℕ) → n < 1000 → n % 100 ≡ 0 → AreMillis n (take 1 (three_digits n))
one_digit n h z =
    let first = digit_is (n / 100) (omega arith) in
    record { are_digits = (omega (arith, first), tt); whole = λ k z lt. absurd (omega arith); value = omega (arith, first) }

-- two for tens
two_digits_left : (n : ℕ) → n < 1000 → n % 10 ≡ 0 → AreMillis n (take 2 (three_digits n))
two_digits_left n h z =
    let first = digit_is (n / 100) (omega arith) in
    let second = digit_is (n / 10 % 10) (omega arith) in
    record {
      are_digits = (omega (arith, first), (omega (arith, second), tt));
      whole = λ k z lt. absurd (omega arith);
      value =
          omega (arith, first, second);
    }

-- three for any number below 1000
all_three : (n : ℕ) → n < 1000 → AreMillis n (three_digits n)
all_three n h =
    let first = digit_is (n / 100) (omega arith) in
    let second = digit_is (n / 10 % 10) (omega arith) in
    let third = digit_is (n % 10) (omega arith) in
    record {
      are_digits = (omega (arith, first), (omega (arith, second), (omega (arith, third), tt)));
      whole =
          λ k z lt. absurd (omega arith);
      value = omega (arith, first, second, third);
    }

-- what the test of 0 says
zero_if : (n : ℕ) → (n == 0) ≡ true → n ≡ 0
zero_if n e = grind (arith, nat_tests)

-- none or three digits, by the test of 0
by_fixed : (b : Bool) (n : ℕ) → (n == 0) ≡ b → n < 1000 → AreMillis n (if b then [] else three_digits n)
by_fixed true n e h = let P : ℕ → Type 0 = λ k. AreMillis k [] in subst P (sym (zero_if n e)) no_digits
by_fixed false n e h = all_three n h

-- the digits of date-time
fixed_are : (n : ℕ) → n < 1000 → AreMillis n (fixed_digits n)
fixed_are n h = by_fixed (n == 0) n refl h

-- no trailing zeros, by the tests of zeros
by_short : (a b c : Bool) (n : ℕ) → (n == 0) ≡ a → (n % 100 == 0) ≡ b → (n % 10 == 0) ≡ c → n < 1000
    → AreMillis n (if a then [] else (if b then take 1 (three_digits n) else (if c then take 2 (three_digits n) else three_digits n)))
by_short true b c n e f g h = let P : ℕ → Type 0 = λ k. AreMillis k [] in subst P (sym (zero_if n e)) no_digits
by_short false true c n e f g h = one_digit n h (zero_if (n % 100) f)
by_short false false true n e f g h = two_digits_left n h (zero_if (n % 10) g)
by_short false false false n e f g h = all_three n h

-- the digits of epoch-seconds
short_are : (n : ℕ) → n < 1000 → AreMillis n (short_digits n)
short_are n h = by_short (n == 0) (n % 100 == 0) (n % 10 == 0) n refl refl refl h

-- a written number of seconds is a number of JSON
decimal_int : (n : ℕ) → n < 2 ^ 64 → IsIntDigits (decimal n)
decimal_int zero h = ((decimal_is_IsNumeral 0 h).0, λ e. ap length (decimal_digit 0 (omega arith)))
decimal_int (suc n) h = ((decimal_is_IsNumeral (suc n) h).0, λ e. absurd (omega (arith, e, first_decimal (suc n) (omega arith) h)))

-- the milliseconds from the year 0 on
since_is : (ms : ℤ) → IsStamp ms → (pos (since_year_0 ms) ≡ ms +ℤ pos 62_167_219_200_000) × (since_year_0 ms < 315_569_520_000_000)
since_is (pos n) h = (omega (arith, ints), omega (arith, ints))
since_is (negsuc n) h = (omega (arith, ints), omega (arith, ints))

-- seconds and milliseconds from the year 0 make a stamp
with_millis : (n : ℕ) (ms : ℤ) → pos n ≡ ms +ℤ pos 62_167_219_200_000 → from_1970 (n / 1000) +ℤ pos (n % 1000) -ℤ pos 0 ≡ ms
with_millis n ms e = omega (arith, ints)

-- written date-time is a text of its stamp
clock_text_is : (ms : ℤ) → IsStamp ms → TimeText DateTime ms (written_stamp DateTime ms)
clock_text_is ms h =
    let since = since_is ms h in
    let n = since_year_0 ms in
    let millis = fixed_are (n % 1000) (omega arith) in
    let moment_is = ap (λ s. from_1970 s +ℤ pos (thousandths (fixed_digits (n % 1000))) -ℤ pos 0) (count_of_civil (n / 1000))
    ∙ ap (λ m. from_1970 (n / 1000) +ℤ pos m -ℤ pos 0) millis.value ∙ with_millis n ms since.0 in (
      clock_form 84 (civil_of (n / 1000)) (fixed_digits (n % 1000)) zulu,
      ((inl refl, civil_is (n / 1000) (omega (arith, since.1)), millis.are_digits, tt), refl),
      millis.whole,
      moment_is,
      h,
    )

-- days from 1970 on lie in its year or later
since_1970 : (n : ℕ) → 719_528 ≤ n → 1970 ≤ (date_of n).year
since_1970 n h =
    let there = days_of_date n in
    let d = date_of n in
    elim (cases_lt d.year 1970) [
      | inl early ↦ absurd (omega (arith, before_year d 1970 there.0 early, there.1, days_before_1970))
      | inr
          late ↦ late
    ]

-- whole seconds from 1970 on
whole_seconds : (ms : ℤ) → pos 0 ≤ℤ ms → unsigned_abs ms % 1000 ≡ 0
    → (from_1970 (since_year_0 ms / 1000) ≡ ms) × (719_528 ≤ since_year_0 ms / 1000 / 86400)
whole_seconds (pos n) low whole = (omega (arith, ints), omega arith)
whole_seconds (negsuc n) low whole = absurd (omega (arith, ints))

-- written http-date is a text of its stamp
http_text_is : (ms : ℤ) → IsStamp ms → IsWritable HttpDate ms → TimeText HttpDate ms (written_stamp HttpDate ms)
http_text_is ms h w =
    let since = since_is ms h in
    let n = since_year_0 ms in
    let seconds = whole_seconds ms w.0 w.1 in (
      gmt_form (civil_of (n / 1000)),
      ((civil_is (n / 1000) (omega (arith, since.1)), since_1970 (n / 1000 / 86400) seconds.1), refl),
      (λ k z lt. absurd (omega arith)),
      ap from_1970 (count_of_civil (n / 1000)) ∙ seconds.0,
      h,
    )

-- the digits of a written number give its milliseconds
digits_are : (n : ℕ) → n < 2 ^ 63 → digits_value 10 (decimal (n / 1000)) * 1000 + thousandths (short_digits (n % 1000)) ≡ n
digits_are n h =
    let whole = (decimal_is_IsNumeral (n / 1000) (omega arith)).1 in
    let millis = (short_are (n % 1000) (omega arith)).value in
    omega (arith, whole, millis)

-- written epoch-seconds are a text of their stamp
number_text_is : (ms : ℤ) → IsStamp ms → TimeText EpochSeconds ms (written_stamp EpochSeconds ms)
number_text_is (pos n) h =
    let millis = short_are (n % 1000) (omega arith) in (
      seconds_form false (decimal (n / 1000)) (short_digits (n % 1000)),
      ((decimal_int (n / 1000) (omega (arith, ints)), millis.are_digits), refl),
      millis.whole,
      ap pos
          (digits_are n (omega (arith, ints))),
      h,
    )
number_text_is (negsuc k) h =
    let n = suc k in
    let millis = short_are (n % 1000) (omega arith) in (
      seconds_form true (decimal (n / 1000)) (short_digits (n % 1000)),
      ((decimal_int (n / 1000) (omega (arith, ints)), millis.are_digits), refl),
      millis.whole,
      ap (λ m. neg_ℤ (pos m))
          (digits_are n (omega (arith, ints))),
      h,
    )

-- so is what is written in each format
pub written_is_text : (format : Format) (ms : ℤ) → IsStamp ms → IsWritable format ms → TimeText format ms (written_stamp format ms)
written_is_text DateTime ms h w = clock_text_is ms h
written_is_text HttpDate ms h w = http_text_is ms h w
written_is_text EpochSeconds ms h w = number_text_is ms h
