-- What a token's kind says of its bytes: a number is one, and a string and a text block have their quotation marks and a
-- value. The first of a token's bytes stands at the place `start`.
use Rattle.std.specs.Prelude.{◌≡◌, ℕ, ◌+◌, ◌-◌, ◌≤◌, ◌<◌, List, length, slice_index, IsOk}
use Rattle.sm_bytes.specs.Ascii.{quote}
use Rattle.sm_tree.specs.Numbers.{IsNumber}
use Rattle.sm_lex.specs.declared.token.TokenKind.{TokenKind}
use Rattle.sm_lex.specs.declared.token.TokenKind.TheVariants.{Word, Number, Text, Block, Mark}
use Rattle.sm_lex.specs.Values.{opener_len, string_value, block_value}

-- k quotation marks at both ends, the first of them within the first `opener` bytes
pub record IsQuoted (opener k : ℕ) (t : List ℕ) : Type 0 where
  pub long : opener + k ≤ length t
  pub opens : (i : ℕ) → i < k → slice_index t i ≡ quote
  pub closes : slice_index t (length t - k) ≡ quote

-- a string from its first quotation mark to its last, with no bad escape
pub record IsStringText (start : ℕ) (t : List ℕ) : Type 0 where
  pub quoted : IsQuoted 1 1 t
  pub value : IsOk (string_value start t)

-- a text block from its first quotation mark to its last, with no bad escape
pub record IsBlockText (start : ℕ) (t : List ℕ) : Type 0 where
  pub quoted : IsQuoted (opener_len t) 3 t
  pub value : IsOk (block_value start t)

-- what a token of each kind is
abbrev pub HasShape : TokenKind → ℕ → List ℕ → Type 0
HasShape Word start t = Unit {0}
HasShape Number start t = IsNumber t
HasShape Text start t = IsStringText start t
HasShape Block start t = IsBlockText start t
HasShape Mark start t = Unit {0}
