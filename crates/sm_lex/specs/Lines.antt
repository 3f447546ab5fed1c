-- What the inside of a string or a text block means (Smithy 2.0, "Smithy IDL", "String values" and "Text
-- blocks"), line by line. LF, CR LF and CR end a line, and each counts as LF.
use Rattle.std.specs.Prelude.{ℕ, zero, suc, ◌+◌, ◌-◌, ◌==◌, ◌||◌, ◌&&◌, Bool, cond, min, List, [], ◌∷◌, ◌++◌, take, drop, length, Option}
use Rattle.std.specs.Prelude.{Some, None, Result, Ok, Err, map}
use Rattle.std.specs.Char.{encode_utf8}
use Rattle.std.specs.List.{list_all, prefix_len, suffix_len}
use Rattle.sm_bytes.specs.Ascii.{tab, line_feed, carriage_return, space, backslash}
use Rattle.sm_lex.specs.declared.escape.Escape.{Escape}
use Rattle.sm_lex.specs.Escapes.{escape}

-- the bytes of a line, without its end, and the place of the first
pub record Line : Type 0 where
  pub at : ℕ
  pub bytes : List ℕ

abbrev pub is_line_end : ℕ → Bool
is_line_end c = (c == line_feed) || (c == carriage_return)

-- how many bytes of a line end stand first: none, or one, or the two of CR LF
abbrev pub line_end_len : List ℕ → ℕ
line_end_len [] = 0
line_end_len (c ∷ []) = cond (is_line_end c) 1 0
line_end_len (c ∷ (d ∷ s)) = cond (is_line_end c) (cond ((c == carriage_return) && (d == line_feed)) 2 1) 0

abbrev pub empty_line : ℕ → Line
empty_line at = record { at = at; bytes = [] }

-- the byte c stands before the first line
abbrev pub onto : ℕ → ℕ → List Line → List Line
onto at c [] = []
onto at c (l ∷ ls) = record { at = at; bytes = c ∷ l.bytes } ∷ ls

-- the lines of a text that begins at `at`; the last one is empty where the text ends with a line end
abbrev pub lines_at : ℕ → List ℕ → List Line
lines_at at [] = empty_line at ∷ []
lines_at at (c ∷ []) = cond (is_line_end c) (empty_line at ∷ (empty_line (at + 1) ∷ [])) (onto at c (empty_line (at + 1) ∷ []))
lines_at at (c ∷ (d ∷ s)) =
    cond (is_line_end c) (empty_line at ∷ cond ((c == carriage_return) && (d == line_feed)) (lines_at (at + 2) s)
    (lines_at (at + 1) (d ∷ s)))
    (onto at c (lines_at (at + 1) (d ∷ s)))

-- these bytes, and then a text, or the place of its first bad escape
abbrev pub put_before : List ℕ → Result (List ℕ) ℕ → Result (List ℕ) ℕ
put_before bs (Ok t) = Ok (bs ++ t)
put_before bs (Err p) = Err p

-- behind a line: what the lines below it give, if there are any
abbrev pub end_of_line : Option (Result (List ℕ) ℕ) → Result (List ℕ) ℕ
end_of_line None = Ok []
end_of_line (Some below) = put_before (line_feed ∷ []) below

-- a backslash at `at`, before the bytes s of its line: an escape; or, at the end of a line, nothing, and the
-- next line joins. The last line has none to join
abbrev pub behind_backslash : ℕ → List ℕ → Option Escape → Option (Result (List ℕ) ℕ) → (ℕ → Result (List ℕ) ℕ) → Result (List ℕ) ℕ
behind_backslash at [] e None behind = Err at
behind_backslash at [] e (Some below) behind = below
behind_backslash at (d ∷ s) None below behind = Err at
behind_backslash at (d ∷ s) (Some e) below behind = put_before (encode_utf8 e.character) (behind e.count)

abbrev pub is_backslash : ℕ → Bool
is_backslash c = c == backslash

-- the text of a line and of those below; the first `skip` bytes belong to an escape before them. A byte that
-- isn't a backslash stands for itself
abbrev pub line_text : ℕ → ℕ → List ℕ → Option (Result (List ℕ) ℕ) → Result (List ℕ) ℕ
line_text at skip [] below = end_of_line below
line_text at (suc skip) (c ∷ s) below = line_text (at + 1) skip s below
line_text at zero (c ∷ s) below =
    cond (is_backslash c) (behind_backslash at s (escape s) below (λ skip. line_text (at + 1) skip s below))
    (put_before (c ∷ []) (line_text (at + 1) 0 s below))

-- the text of lines, or the place of the backslash of their first bad escape
abbrev pub lines_text : List Line → Result (List ℕ) ℕ
lines_text [] = Ok []
lines_text (l ∷ []) = line_text l.at 0 l.bytes None
lines_text (l ∷ (m ∷ ls)) = line_text l.at 0 l.bytes (Some (lines_text (m ∷ ls)))

-- space and tab
abbrev pub is_blank : ℕ → Bool
is_blank c = (c == space) || (c == tab)

abbrev pub is_space : ℕ → Bool
is_space c = c == space

abbrev pub leading_spaces : List ℕ → ℕ
leading_spaces bs = prefix_len is_space bs

-- the smallest number of leading spaces over the lines that aren't blank; the last line counts also where it
-- is blank
abbrev pub indent : List Line → ℕ
indent [] = 0
indent (l ∷ []) = leading_spaces l.bytes
indent (l ∷ (m ∷ ls)) = cond (list_all is_blank l.bytes) (indent (m ∷ ls)) (min (leading_spaces l.bytes) (indent (m ∷ ls)))

abbrev pub without_trailing : List ℕ → List ℕ
without_trailing bs = take (length bs - suffix_len is_blank bs) bs

-- n leading spaces go, or all that there are, and then trailing blanks
abbrev pub trimmed : ℕ → Line → Line
trimmed n l =
    let taken = min n (leading_spaces l.bytes) in
    record { at = l.at + taken; bytes = without_trailing (drop taken l.bytes) }

abbrev pub trimmed_lines : List Line → List Line
trimmed_lines ls = map (trimmed (indent ls)) ls
