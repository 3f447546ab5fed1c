-- How the bytes of a string are written, one by one and in runs.
use Rattle.std.specs.Prelude.{◌≡◌, ℕ, ◌/◌, ◌%◌, ◌<◌, ◌≤◌, Bool, false, List, slice_index, nat_lt, ◌==◌, ◌||◌, not, [], ◌∷◌, ◌++◌, codes}
use Rattle.sm_bytes.specs.Ascii.{space, quote, backslash}
use Rattle.sm_json.specs.declared.byte_form.ByteForm.{ByteForm}
use Rattle.sm_json.specs.declared.byte_form.ByteForm.TheVariants.{Plain, Letter, Digits}
use Rattle.sm_json.specs.Written.{hex_digit, written_byte}

-- a byte that doesn't stand for itself in a string
abbrev pub is_escaped : ℕ → Bool
is_escaped b = nat_lt b space || ((b == quote) || (b == backslash))

-- and one that does
abbrev pub is_unescaped : ℕ → Bool
is_unescaped b = not (is_escaped b)

-- no byte from i up to j is escaped
abbrev pub IsPlainBetween : List ℕ → ℕ → ℕ → Type 0
IsPlainBetween bs i j = (k : ℕ) → i ≤ k → k < j → is_escaped (slice_index bs k) ≡ false

-- b is written in this form: as itself, by a backslash and a letter, or by four digits
abbrev pub HasForm : ByteForm → ℕ → Type 0
HasForm Plain b = written_byte b ≡ b ∷ []
HasForm (Letter e) b = written_byte b ≡ backslash ∷ e ∷ []
HasForm Digits b = (b < space) × (written_byte b ≡ codes "\\u00" ++ hex_digit (b / 16) ∷ hex_digit (b % 16) ∷ [])
