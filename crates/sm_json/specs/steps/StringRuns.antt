-- Runs of a string that are taken at once, and what the text reader answers.
use Rattle.std.specs.Prelude.{◌≡◌, ◌↔◌, ℕ, Bool, nat_lt, not, ◌&&◌, List, [], ◌∷◌, ◌++◌, encode_utf8_all}
use Rattle.std.specs.Char.{IsScalar}
use Rattle.sm_json.specs.declared.spot.Spot.{Spot}
use Rattle.sm_json.specs.Strings.{IsUnescaped}
use Rattle.sm_json.specs.steps.Placing.{is_unescaped}
use Rattle.sm_json.specs.steps.TextRest.{TextRest}

abbrev pub AreUnescaped : List ℕ → Type 0
AreUnescaped [] = Unit {0}
AreUnescaped (c ∷ cs) = IsScalar c × IsUnescaped c × AreUnescaped cs

-- these bytes are whole characters in UTF-8 that stand for themselves
abbrev pub IsPlainRun : List ℕ → Type 0
IsPlainRun bs = (cs : List ℕ) × AreUnescaped cs × (encode_utf8_all cs ≡ bs)

-- a character of one byte that stands for itself
abbrev pub is_unescaped_ascii : ℕ → Bool
is_unescaped_ascii b = nat_lt b 0x80 && is_unescaped b

-- a byte at which a run of such characters ends
abbrev pub ends_ascii_run : ℕ → Bool
ends_ascii_run b = not (is_unescaped_ascii b)

-- from one spot and text to another over these bytes: what may still come is the same
abbrev pub StringTakes : Spot → List ℕ → Spot → List ℕ → List ℕ → Type 0
StringTakes old b new d bs = (s t r : List ℕ) → TextRest old b (bs ++ s) t r ↔ TextRest new d s t r

-- the string closes with the last of these bytes, its text is d
abbrev pub StringCloses : Spot → List ℕ → List ℕ → List ℕ → Type 0
StringCloses old b d bs = (s t r : List ℕ) → TextRest old b (bs ++ s) t r ↔ ((t ≡ d) × (s ≡ r))

-- no string goes on over these bytes
abbrev pub StringStops : Spot → List ℕ → List ℕ → Type 0
StringStops old b bs = (s t r : List ℕ) → TextRest old b (bs ++ s) t r → ⊥
