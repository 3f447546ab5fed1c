-- Escapes in strings (RFC 8259, section 7): what stands for a character behind a backslash, and the pairs of
-- surrogates of UTF-16.
use Rattle.std.specs.Prelude.{ℕ, ◌+◌, ◌-◌, ◌*◌, ◌≤◌, ◌<◌, ◌==◌, cond, nat_le, ◌&&◌, Option, Some, None}
use Rattle.sm_bytes.specs.Ascii.{backspace, tab, line_feed, form_feed, carriage_return, quote, slash, backslash, digit_zero, digit_nine}
use Rattle.sm_bytes.specs.Ascii.{capital_a, capital_f, small_a, small_b, small_f, small_n, small_r, small_t}

-- one of `"` `\` `/` `b` `f` `n` `r` `t`
abbrev pub short_escape : ℕ → Option ℕ
short_escape e =
    cond (e == quote) (Some quote) (cond (e == backslash) (Some backslash)
    (cond (e == slash) (Some slash) (cond (e == small_b) (Some backspace)
    (cond (e == small_f) (Some form_feed) (cond (e == small_n) (Some line_feed)
    (cond (e == small_r) (Some carriage_return) (cond (e == small_t) (Some tab) None)))))))

-- HEXDIG, in either case
abbrev pub hex_value : ℕ → Option ℕ
hex_value c =
    cond (nat_le digit_zero c && nat_le c digit_nine) (Some (c - digit_zero))
    (cond (nat_le capital_a c && nat_le c capital_f) (Some (c - capital_a + 10))
    (cond (nat_le small_a c && nat_le c small_f) (Some (c - small_a + 10)) None))

-- the two halves of a UTF-16 surrogate pair
abbrev pub IsHigh : ℕ → Type 0
IsHigh v = (0xD800 ≤ v) × (v < 0xDC00)

abbrev pub IsLow : ℕ → Type 0
IsLow v = (0xDC00 ≤ v) × (v < 0xE000)

-- the character that a surrogate pair stands for
abbrev pub joined : ℕ → ℕ → ℕ
joined high low = 0x10000 + ((high - 0xD800) * 0x400 + (low - 0xDC00))
