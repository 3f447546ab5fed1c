-- What a token's bytes mean: the text of a string and of a text block, or the place of the first bad escape
-- (Smithy 2.0, "Smithy IDL", "String values" and "Text blocks"). The token's first byte stands at the place
-- `start`.
use Rattle.std.specs.Prelude.{ℕ, ◌+◌, ◌-◌, List, take, drop, length, Result}
use Rattle.sm_lex.specs.Lines.{line_end_len, lines_at, lines_text, trimmed_lines, Line}

-- what stands between the quotation marks of a string
abbrev pub string_inside : List ℕ → List ℕ
string_inside t = take (length t - 2) (drop 1 t)

abbrev pub string_value : ℕ → List ℕ → Result (List ℕ) ℕ
string_value start t = lines_text (lines_at (start + 1) (string_inside t))

-- how many bytes open a block: three quotation marks, and the line end behind them
abbrev pub opener_len : List ℕ → ℕ
opener_len t = 3 + line_end_len (drop 3 t)

-- what stands between there and the closing quotation marks
abbrev pub block_inside : List ℕ → List ℕ
block_inside t = take (length t - (opener_len t + 3)) (drop (opener_len t) t)

abbrev pub block_lines : ℕ → List ℕ → List Line
block_lines start t = lines_at (start + opener_len t) (block_inside t)

abbrev pub block_value : ℕ → List ℕ → Result (List ℕ) ℕ
block_value start t = lines_text (trimmed_lines (block_lines start t))
