-- The parts that the readers take a text apart into.
use Rattle.std.specs.Prelude.{◌≡◌, ◌≢◌, ℕ, ◌*◌, ◌+◌, ◌<◌, ◌≤◌, List, [], ◌∷◌, ◌++◌, ℤ, pos, neg_ℤ, ◌≤ℤ◌, Option, Some, None}
use Rattle.std.specs.Char.{digit_value}
use Rattle.std.specs.Str.Parse.{AllDigits}
use Rattle.sm_bytes.specs.Ascii.{full_stop}
use Rattle.sm_time.specs.declared.civil.Civil.{Civil}
use Rattle.sm_time.specs.declared.format.Format.TheVariants.{DateTime}
use Rattle.sm_time.specs.Civil.{IsCivil, second_count, clock_text, two_digits}
use Rattle.sm_time.specs.TimeText.{clock_form, IsLetter, Shows, Zone, IsZone, zone_text, offset, fraction_text}

-- no digit comes first
abbrev pub NoDigitFirst : List ℕ → Type 0
NoDigitFirst [] = Unit {0}
NoDigitFirst (c ∷ cs) = 10 ≤ digit_value c

-- no digit and no point comes first
abbrev pub EndsFraction : List ℕ → Type 0
EndsFraction [] = Unit {0}
EndsFraction (c ∷ cs) = (c ≢ full_stop) × (10 ≤ digit_value c)

-- the text is a fraction and the rest, in the only way in which the rest doesn't go on with the fraction
pub record SplitsFraction (text digits rest : List ℕ) : Type 0 where
  pub parts : text ≡ fraction_text digits ++ rest
  pub are_digits : AllDigits 10 digits
  pub only : (ds r : List ℕ) → AllDigits 10 ds → EndsFraction r → text ≡ fraction_text ds ++ r → (ds ≡ digits) × (r ≡ rest)

-- two digits that show a number below 100
abbrev pub TwoDigits : ℕ → ℕ → Option ℕ → Type 0
TwoDigits a b (Some n) = (n < 100) × (two_digits n ≡ a ∷ b ∷ [])
TwoDigits a b None = (n : ℕ) → n < 100 → ¬ (two_digits n ≡ a ∷ b ∷ [])

-- the milliseconds of hours and minutes
abbrev pub ClockOffset : List ℕ → List ℕ → Option ℕ → Type 0
ClockOffset hours minutes (Some ms) =
    (h m : ℕ) × (h < 24) × (m < 60) × (two_digits h ≡ hours) × (two_digits m ≡ minutes) × (ms ≡ (h * 60 + m) * 60_000)
ClockOffset hours minutes None = (h m : ℕ) → h < 24 → m < 60 → two_digits h ≡ hours → ¬ (two_digits m ≡ minutes)

-- the milliseconds by which a zone's clock is ahead
abbrev pub ZoneOffset : List ℕ → Option ℤ → Type 0
ZoneOffset text (Some ms) = (zone : Zone) × IsZone zone × (text ≡ zone_text zone) × (ms ≡ offset zone)
ZoneOffset text None = (zone : Zone) → IsZone zone → ¬ (text ≡ zone_text zone)

-- the seconds that 19 bytes show
abbrev pub ClockSeconds : List ℕ → Option ℕ → Type 0
ClockSeconds text (Some seconds) =
    (letter : ℕ) × (c : Civil) × IsLetter letter × IsCivil c × (text ≡ clock_text letter c) × (seconds ≡ second_count c)
ClockSeconds text None = (letter : ℕ) (c : Civil) → IsLetter letter → IsCivil c → ¬ (text ≡ clock_text letter c)

-- a text of date-time, by the seconds that its clock shows, the digits of its fraction and its offset
abbrev pub ShowsClock : List ℕ → ℕ → List ℕ → ℤ → Type 0
ShowsClock text seconds digits ahead_by =
    (letter : ℕ) × (c : Civil) × (zone : Zone) × Shows DateTime text (clock_form letter c digits zone)
    × (seconds ≡ second_count c) × (ahead_by ≡ offset zone)

-- less than a day, either way
abbrev pub IsOffset : ℤ → Type 0
IsOffset ms = (neg_ℤ (pos 86_340_000) ≤ℤ ms) × (ms ≤ℤ pos 86_340_000)
