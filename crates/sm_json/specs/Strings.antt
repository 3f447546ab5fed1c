-- Whitespace and strings of JSON (RFC 8259, sections 2 and 7). A definition here has the form "s begins
-- with a spelling of .., and r is what follows it", so that a text is cut nowhere by hand. A surrogate stands
-- only as a pair of escapes, so "\uDEAD" is no string.
use Rattle.std.specs.Prelude.{◌≡◌, ℕ, zero, suc, ◌+◌, ◌*◌, ◌≤◌, ◌⊎◌, ◌≢◌, ◌==◌, Bool, true, ◌||◌, List, [], ◌∷◌, ◌++◌, Some}
use Rattle.std.specs.Prelude.{encode_utf8_all}
use Rattle.std.specs.Char.{IsScalar, encode_utf8}
use Rattle.sm_bytes.specs.Ascii.{tab, line_feed, carriage_return, space, quote, backslash, small_u}
use Rattle.sm_bytes.specs.Escapes.{short_escape, hex_value, IsHigh, IsLow, joined}

-- ws = *( %x20 / %x09 / %x0A / %x0D )
abbrev pub is_whitespace : ℕ → Bool
is_whitespace c = (c == space) || ((c == tab) || ((c == line_feed) || (c == carriage_return)))

-- s is whitespace, or none, and then r
abbrev pub Whitespace : List ℕ → List ℕ → Type 0
Whitespace [] r = r ≡ []
Whitespace (c ∷ s) r = (r ≡ c ∷ s) ⊎ ((is_whitespace c ≡ true) × Whitespace s r)

-- unescaped = %x20-21 / %x23-5B / %x5D-10FFFF, of the characters of Unicode
abbrev pub IsUnescaped : ℕ → Type 0
IsUnescaped c = (space ≤ c) × (c ≢ quote) × (c ≢ backslash)

-- k hexadecimal digits which, after those that made n, make v
abbrev pub HexDigits : ℕ → ℕ → ℕ → List ℕ → List ℕ → Type 0
HexDigits zero n v s r = (v ≡ n) × (s ≡ r)
HexDigits (suc k) n v [] r = ⊥
HexDigits (suc k) n v (c ∷ s) r = (d : ℕ) × (hex_value c ≡ Some d) × HexDigits k (n * 16 + d) v s r

-- %x75 4HEXDIG, behind a backslash: the code unit v
abbrev pub CodeUnit : ℕ → List ℕ → List ℕ → Type 0
CodeUnit v s r = (s1 : List ℕ) × (s ≡ small_u ∷ s1) × HexDigits 4 0 v s1 r

-- behind a backslash and a high surrogate: the escape of the low one that makes c with it
abbrev pub LowHalf : ℕ → ℕ → List ℕ → List ℕ → Type 0
LowHalf high c s r = (low : ℕ) × (s1 : List ℕ) × (s ≡ backslash ∷ s1) × CodeUnit low s1 r × IsLow low × (c ≡ joined high low)

-- behind a backslash: the character c
abbrev pub Escape : ℕ → List ℕ → List ℕ → Type 0
Escape c s r =
    ((e : ℕ) × (s ≡ e ∷ r) × (short_escape e ≡ Some c))
    ⊎ (CodeUnit c s r ⊎ ((high : ℕ) × (s1 : List ℕ) × CodeUnit high s s1 × IsHigh high × LowHalf high c s1 r))

-- char: the character c, as it is in UTF-8 or as an escape
abbrev pub Character : ℕ → List ℕ → List ℕ → Type 0
Character c s r =
    IsScalar c
    × ((IsUnescaped c × (s ≡ encode_utf8 c ++ r)) ⊎ ((s1 : List ℕ) × (s ≡ backslash ∷ s1) × Escape c s1 r))

-- *char quotation-mark
abbrev pub Characters : List ℕ → List ℕ → List ℕ → Type 0
Characters [] s r = s ≡ quote ∷ r
Characters (c ∷ cs) s r = (s1 : List ℕ) × Character c s s1 × Characters cs s1 r

-- string = quotation-mark *char quotation-mark; its characters in UTF-8 are t
abbrev pub SpellsText : List ℕ → List ℕ → List ℕ → Type 0
SpellsText t s r = (cs s1 : List ℕ) × (t ≡ encode_utf8_all cs) × (s ≡ quote ∷ s1) × Characters cs s1 r
