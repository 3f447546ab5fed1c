-- The one text that is written for a stamp in each format. `date-time` is in UTC, with three digits of a
-- fraction where the milliseconds aren't 0; `epoch-seconds` has no trailing zeros.
use Rattle.std.specs.Prelude.{◌≡◌, ℕ, ◌+◌, ◌/◌, ◌%◌, Bool, true, false, ◌==◌, List, [], ◌∷◌, take, if◌then◌else◌, ℤ, pos, negsuc, ◌+ℤ◌}
use Rattle.std.specs.Prelude.{◌≤ℤ◌, unsigned_abs}
use Rattle.std.specs.Fmt.{decimal}
use Rattle.sm_bytes.specs.Ascii.{digit_zero, capital_t}
use Rattle.sm_time.specs.declared.format.Format.{Format}
use Rattle.sm_time.specs.declared.format.Format.TheVariants.{DateTime, HttpDate, EpochSeconds}
use Rattle.sm_time.specs.Civil.{civil_of}
use Rattle.sm_time.specs.TimeText.{Form, clock_form, gmt_form, seconds_form, zulu, form_text}

-- the milliseconds from 0000-01-01T00:00:00Z to a stamp
abbrev pub since_year_0 : ℤ → ℕ
since_year_0 ms = unsigned_abs (ms +ℤ pos 62_167_219_200_000)

-- three digits of a number below 1000
abbrev pub three_digits : ℕ → List ℕ
three_digits n = (digit_zero + n / 100) ∷ (digit_zero + n / 10 % 10) ∷ (digit_zero + n % 10) ∷ []

-- the digits of so many milliseconds: none for 0, else three
abbrev pub fixed_digits : ℕ → List ℕ
fixed_digits ms = if ms == 0 then [] else three_digits ms

-- the same without trailing zeros
abbrev pub short_digits : ℕ → List ℕ
short_digits ms =
    if ms == 0 then []
    else (if ms % 100 == 0 then take 1 (three_digits ms) else (if ms % 10 == 0 then take 2 (three_digits ms) else three_digits ms))

-- a number below 0
abbrev pub is_negative : ℤ → Bool
is_negative (pos n) = false
is_negative (negsuc n) = true

-- the form that is written
abbrev pub written_form : Format → ℤ → Form
written_form DateTime ms = clock_form capital_t (civil_of (since_year_0 ms / 1000)) (fixed_digits (since_year_0 ms % 1000)) zulu
written_form HttpDate ms = gmt_form (civil_of (since_year_0 ms / 1000))
written_form EpochSeconds ms = seconds_form (is_negative ms) (decimal (unsigned_abs ms / 1000)) (short_digits (unsigned_abs ms % 1000))

-- the text that is written
abbrev pub written_stamp : Format → ℤ → List ℕ
written_stamp format ms = form_text (written_form format ms)

-- the format has a text of the stamp: http-date from 1970 on, and of whole seconds alone
abbrev pub IsWritable : Format → ℤ → Type 0
IsWritable DateTime ms = Unit {0}
IsWritable HttpDate ms = (pos 0 ≤ℤ ms) × (unsigned_abs ms % 1000 ≡ 0)
IsWritable EpochSeconds ms = Unit {0}
