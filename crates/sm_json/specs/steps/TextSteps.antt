-- Which places within a string some text goes on from, and what one more byte makes of a place.
use Rattle.std.specs.Prelude.{◌≡◌, ◌↔◌, ◌⊎◌, ◌≤◌, ◌<◌, ℕ, List, ◌∷◌, ◌++◌}
use Rattle.std.specs.Char.{IsScalar, encode_utf8}
use Rattle.sm_json.specs.declared.spot.UnitDigits.{UnitDigits}
use Rattle.sm_json.specs.declared.spot.UnitDigits.TheVariants.{First, Second, Third, Fourth}
use Rattle.sm_json.specs.declared.spot.CharacterPart.{CharacterPart}
use Rattle.sm_json.specs.declared.spot.CharacterPart.TheVariants.{Escape as BehindBackslash, Unit as InUnit, LowBackslash, LowLetter}
use Rattle.sm_json.specs.declared.spot.CharacterPart.TheVariants.{LowUnit, One}
use Rattle.sm_json.specs.declared.spot.CharacterPart.TheVariants.{Two, Three}
use Rattle.sm_json.specs.declared.spot.Spot.{Spot}
use Rattle.sm_json.specs.declared.spot.Spot.TheVariants.{Plain, Inside}
use Rattle.sm_json.specs.declared.spot.SpotStep.{SpotStep}
use Rattle.sm_json.specs.declared.spot.SpotStep.TheVariants.{Within, Whole, Closed, Refused}
use Rattle.sm_bytes.specs.Escapes.{IsHigh}
use Rattle.sm_json.specs.Strings.{LowHalf}
use Rattle.sm_bytes.specs.Utf8.{IsTail, IsSecond}
use Rattle.sm_json.specs.steps.TextRest.{PartRest, TextRest}

-- the digits so far are those of a code unit that may stand first: no low surrogate
abbrev pub IsUnitBegun : UnitDigits → Type 0
IsUnitBegun First = Unit {0}
IsUnitBegun (Second n) = n < 0x10
IsUnitBegun (Third n) = (n < 0x100) × (0xDC ≤ n → 0xE0 ≤ n)
IsUnitBegun (Fourth n) = (n < 0x1000) × (0xDC0 ≤ n → 0xE00 ≤ n)

-- the digits so far are those of a low surrogate
abbrev pub IsLowBegun : UnitDigits → Type 0
IsLowBegun First = Unit {0}
IsLowBegun (Second n) = (0xD ≤ n) × (n < 0xE)
IsLowBegun (Third n) = (0xDC ≤ n) × (n < 0xE0)
IsLowBegun (Fourth n) = (0xDC0 ≤ n) × (n < 0xE00)

-- a character may go on from this place
abbrev pub IsPartLive : CharacterPart → Type 0
IsPartLive BehindBackslash = Unit {0}
IsPartLive (InUnit d) = IsUnitBegun d
IsPartLive (LowBackslash high) = IsHigh high
IsPartLive (LowLetter high) = IsHigh high
IsPartLive (LowUnit high d) = IsHigh high × IsLowBegun d
IsPartLive (One x) = (0xC2 ≤ x) × (x < 0xF5)
IsPartLive (Two x y) = (0xE0 ≤ x) × (x < 0xF5) × IsSecond x y
IsPartLive (Three x y z) = (0xF0 ≤ x) × (x < 0xF5) × IsSecond x y × IsTail z

abbrev pub IsLive : Spot → Type 0
IsLive Plain = Unit {0}
IsLive (Inside p) = IsPartLive p

-- c is whole: the character d, and nothing more of it is to come
abbrev pub CodeEnd : ℕ → ℕ → List ℕ → List ℕ → Type 0
CodeEnd d c s r = (c ≡ d) × (s ≡ r)

-- what stands behind the code unit u of an escape: nothing more of c, or a low surrogate's escape
abbrev pub UnitEnd : ℕ → ℕ → List ℕ → List ℕ → Type 0
UnitEnd u c s r = CodeEnd u c s r ⊎ (IsHigh u × LowHalf u c s r)

-- the rest of a character, as a relation between the character, what spells its rest, and what follows
abbrev pub CharacterRest : Type 1
CharacterRest = ℕ → List ℕ → List ℕ → Type 0

-- this step leaves the same rests as R
abbrev pub StepsTo : CharacterRest → SpotStep → Type 0
StepsTo R (Within p) = IsPartLive p × ((c : ℕ) (s r : List ℕ) → IsScalar c → R c s r ↔ PartRest p c s r)
StepsTo R (Whole d) = IsScalar d × ((c : ℕ) (s r : List ℕ) → IsScalar c → R c s r ↔ CodeEnd d c s r)
StepsTo R Closed = ⊥
StepsTo R Refused = (c : ℕ) (s r : List ℕ) → IsScalar c → R c s r → ⊥

-- what the byte x makes of a place within a character
abbrev pub PartSteps : CharacterPart → ℕ → SpotStep → Type 0
PartSteps p x step = StepsTo (λ c s r. PartRest p c (x ∷ s) r) step

-- what the byte x makes of a place within a string
abbrev pub StringSteps : Spot → ℕ → SpotStep → Type 0
StringSteps spot x (Within p) = IsPartLive p × ((b s t r : List ℕ) → TextRest spot b (x ∷ s) t r ↔ TextRest (Inside p) b s t r)
StringSteps spot x (Whole c) = (b s t r : List ℕ) → TextRest spot b (x ∷ s) t r ↔ TextRest Plain (b ++ encode_utf8 c) s t r
StringSteps spot x Closed = (b s t r : List ℕ) → TextRest spot b (x ∷ s) t r ↔ ((t ≡ b) × (s ≡ r))
StringSteps spot x Refused = (b s t r : List ℕ) → TextRest spot b (x ∷ s) t r → ⊥
