-- The text of a size line, and what is seen of a size line in the bytes so far.
use Rattle.std.specs.Prelude.{◌≡◌, ℕ, ◌<◌, ◌≤◌, Bool, true, List, [], ◌∷◌, ◌++◌, length, take, drop, ◌==◌, if◌then◌else◌, Option, Some}
use Rattle.std.specs.Prelude.{None}
use Rattle.std.specs.List.{prefix_len}
use Rattle.std.specs.Char.{is_ascii_hexdigit}
use Rattle.std.specs.Str.Parse.{digits_value}
use Rattle.httparse.specs.Ascii.{semicolon}
use Rattle.httparse.specs.Grammar.{is_ows, print_extension, ChunkLine, print_chunk_line, chunk_size}
use Rattle.sm_http.specs.Limits.{most_size_digits}
use Rattle.sm_http.specs.Chunks.{IsSizeLine}
use Rattle.sm_http.specs.declared.size_line.SeenSize.{SeenSize}
use Rattle.sm_http.specs.declared.size_line.SeenSize.TheVariants.{Whole, Part, Never}

-- the bytes of a line before its line end
abbrev pub line_text : ChunkLine → List ℕ
line_text l = l.digits ++ (l.pad ++ print_extension l.extension)

-- behind the digits: spaces and tabs, and then nothing or an extension
abbrev pub is_tail : List ℕ → Bool
is_tail [] = true
is_tail (b ∷ bs) = if is_ows b then is_tail bs else b == semicolon

abbrev pub digit_count : List ℕ → ℕ
digit_count text = prefix_len is_ascii_hexdigit text

pub record IsSizeText (text : List ℕ) : Type 0 where
  pub some : 0 < digit_count text
  pub few : digit_count text ≤ most_size_digits
  pub tail : is_tail (drop (digit_count text) text) ≡ true

abbrev pub SaysSize : List ℕ → Option ℕ → Type 0
SaysSize text (Some size) = IsSizeText text × (size ≡ digits_value 16 (take (digit_count text) text))
SaysSize text None = IsSizeText text → ⊥

-- the bytes begin with no size line
abbrev pub HasNoSize : List ℕ → Type 0
HasNoSize bytes = (line : ChunkLine) (rest : List ℕ) → IsSizeLine line → bytes ≡ print_chunk_line line ++ rest → ⊥

-- no bytes can follow that make a size line
abbrev pub NeverHasSize : List ℕ → Type 0
NeverHasSize bytes = (more : List ℕ) → HasNoSize (bytes ++ more)

-- some bytes can follow that make a size line
pub record MayBecomeSize (bytes : List ℕ) : Type 0 where
  pub more : List ℕ
  pub line : ChunkLine
  pub is_line : IsSizeLine line
  pub reads : bytes ++ more ≡ print_chunk_line line

-- a size line of that number, and so many bytes
pub record ReadsSize (bytes : List ℕ) (size len : ℕ) : Type 0 where
  pub line : ChunkLine
  pub is_line : IsSizeLine line
  pub within : len ≤ length bytes
  pub reads : bytes ≡ print_chunk_line line ++ drop len bytes
  pub number : size ≡ chunk_size line

abbrev pub SeesSize : List ℕ → SeenSize → Type 0
SeesSize bytes (Whole size len) = ReadsSize bytes size len
SeesSize bytes Part = HasNoSize bytes × MayBecomeSize bytes
SeesSize bytes Never = NeverHasSize bytes
