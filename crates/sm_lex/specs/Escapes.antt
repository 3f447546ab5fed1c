-- Escapes in strings and text blocks (Smithy 2.0, "Smithy IDL", "String values"): those of JSON (RFC 8259,
-- section 7). A surrogate stands only in a pair. That a backslash joins two lines is said by the lines.
use Rattle.std.specs.Prelude.{ℕ, ◌+◌, ◌*◌, ◌==◌, ◌&&◌, Bool, cond, nat_le, nat_lt, List, [], ◌∷◌, drop, codes, Option, Some, None}
use Rattle.sm_bytes.specs.Ascii.{small_u}
use Rattle.sm_bytes.specs.Escapes.{short_escape, hex_value, joined}
use Rattle.sm_lex.specs.declared.escape.Escape.{Escape}
use Rattle.sm_lex.specs.Bytes.{opens_with}

-- the two halves of a pair of surrogates (UTF-16)
abbrev pub is_high : ℕ → Bool
is_high v = nat_le 0xD800 v && nat_lt v 0xDC00

abbrev pub is_low : ℕ → Bool
is_low v = nat_le 0xDC00 v && nat_lt v 0xE000

abbrev pub with_digit : ℕ → Option ℕ → Option ℕ
with_digit n None = None
with_digit n (Some d) = Some (n * 16 + d)

abbrev pub behind_digits : Option ℕ → ℕ → Option ℕ
behind_digits None c = None
behind_digits (Some n) c = with_digit n (hex_value c)

-- `u` and four hexadecimal digits, and then anything: the code unit
abbrev pub code_unit : List ℕ → Option ℕ
code_unit (u ∷ (a ∷ (b ∷ (c ∷ (d ∷ s))))) =
    cond (u == small_u) (behind_digits (behind_digits (behind_digits (hex_value a) b) c) d) None
code_unit _ = None

-- behind a high surrogate: `\u` and the digits of a low one
abbrev pub low_half : ℕ → Option ℕ → Option Escape
low_half high None = None
low_half high (Some low) = cond (is_low low) (Some (record { character = joined high low; count = 11 })) None

abbrev pub pair : ℕ → List ℕ → Option Escape
pair high s = cond (opens_with s (codes "\\")) (low_half high (code_unit (drop 1 s))) None

-- `\uXXXX`, from the code unit and what follows it
abbrev pub unit : Option ℕ → List ℕ → Option Escape
unit None s = None
unit (Some v) s = cond (is_high v) (pair v s) (cond (is_low v) None (Some (record { character = v; count = 5 })))

abbrev pub short : Option ℕ → Option Escape
short None = None
short (Some c) = Some (record { character = c; count = 1 })

-- the escape that stands behind a backslash
abbrev pub escape : List ℕ → Option Escape
escape [] = None
escape (e ∷ s) = cond (e == small_u) (unit (code_unit (e ∷ s)) (drop 4 s)) (short (short_escape e))
