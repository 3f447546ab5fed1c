-- What may still come of a string (RFC 8259, section 7), from a place within it. A definition here has the
-- form "from this place s spells the rest, and r follows".
use Rattle.std.specs.Prelude.{◌≡◌, ◌⊎◌, ℕ, List, ◌∷◌, ◌++◌, encode_utf8_all}
use Rattle.std.specs.Char.{IsScalar, encode_utf8}
use Rattle.sm_json.specs.declared.spot.UnitDigits.{UnitDigits}
use Rattle.sm_json.specs.declared.spot.UnitDigits.TheVariants.{First, Second, Third, Fourth}
use Rattle.sm_json.specs.declared.spot.CharacterPart.{CharacterPart}
use Rattle.sm_json.specs.declared.spot.CharacterPart.TheVariants.{Escape as BehindBackslash, Unit as InUnit, LowBackslash, LowLetter}
use Rattle.sm_json.specs.declared.spot.CharacterPart.TheVariants.{LowUnit, One}
use Rattle.sm_json.specs.declared.spot.CharacterPart.TheVariants.{Two, Three}
use Rattle.sm_json.specs.declared.spot.Spot.{Spot}
use Rattle.sm_json.specs.declared.spot.Spot.TheVariants.{Plain, Inside}
use Rattle.sm_bytes.specs.Escapes.{IsHigh, IsLow, joined}
use Rattle.sm_json.specs.Strings.{IsUnescaped, HexDigits, CodeUnit, LowHalf, Escape, Characters}

-- the digits that are left of a code unit, which make v with those before
abbrev pub DigitsRest : UnitDigits → ℕ → List ℕ → List ℕ → Type 0
DigitsRest First v s r = HexDigits 4 0 v s r
DigitsRest (Second n) v s r = HexDigits 3 n v s r
DigitsRest (Third n) v s r = HexDigits 2 n v s r
DigitsRest (Fourth n) v s r = HexDigits 1 n v s r

-- the rest of an escape \uXXXX that stands for c by itself, or with the escape of a low surrogate behind it
abbrev pub UnitRest : UnitDigits → ℕ → List ℕ → List ℕ → Type 0
UnitRest d c s r =
    DigitsRest d c s r ⊎ ((high : ℕ) × (s1 : List ℕ) × DigitsRest d high s s1 × IsHigh high × LowHalf high c s1 r)

-- the rest of the character c
abbrev pub PartRest : CharacterPart → ℕ → List ℕ → List ℕ → Type 0
PartRest BehindBackslash c s r = Escape c s r
PartRest (InUnit d) c s r = UnitRest d c s r
PartRest (LowBackslash high) c s r = LowHalf high c s r
PartRest (LowLetter high) c s r = (low : ℕ) × CodeUnit low s r × IsLow low × (c ≡ joined high low)
PartRest (LowUnit high d) c s r = (low : ℕ) × DigitsRest d low s r × IsLow low × (c ≡ joined high low)
PartRest (One x) c s r = IsUnescaped c × (x ∷ s ≡ encode_utf8 c ++ r)
PartRest (Two x y) c s r = IsUnescaped c × (x ∷ (y ∷ s) ≡ encode_utf8 c ++ r)
PartRest (Three x y z) c s r = IsUnescaped c × (x ∷ (y ∷ (z ∷ s)) ≡ encode_utf8 c ++ r)

-- the rest of a string from between two characters, those before being b: in UTF-8 its characters are t
abbrev pub PlainRest : List ℕ → List ℕ → List ℕ → List ℕ → Type 0
PlainRest b s t r = (cs : List ℕ) × (t ≡ b ++ encode_utf8_all cs) × Characters cs s r

-- from this spot s spells the rest of a string, its closing quotation mark included; in UTF-8 its characters
-- are t, the whole ones before the spot b
abbrev pub TextRest : Spot → List ℕ → List ℕ → List ℕ → List ℕ → Type 0
TextRest Plain b s t r = PlainRest b s t r
TextRest (Inside p) b s t r =
    (c : ℕ) × (s1 : List ℕ) × IsScalar c × PartRest p c s s1 × PlainRest (b ++ encode_utf8 c) s1 t r
