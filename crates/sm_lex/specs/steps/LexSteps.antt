-- What the parts of the lexer answer: each cited by a private function alone.
use Rattle.std.specs.Prelude.{◌≡◌, ℕ, ◌+◌, ◌≤◌, ◌<◌, Bool, true, false, cond, List, [], ◌∷◌, ◌++◌, take, drop, length, Option, Some, None}
use Rattle.std.specs.Prelude.{Result, Ok, Err, IsOk, slice_index, min, not, ◌&&◌, ◌==◌}
use Rattle.std.specs.Char.{encode_utf8}
use Rattle.std.specs.List.{position_or_len, list_all}
use Rattle.std.specs.Str.{IsCharBoundary}
use Rattle.sm_bytes.specs.Ascii.{slash}
use Rattle.sm_tree.specs.Numbers.{IsNumber}
use Rattle.sm_lex.specs.declared.space.SpacePart.{SpacePart}
use Rattle.sm_lex.specs.declared.space.SpacePart.TheVariants.{White, Comment}
use Rattle.sm_lex.specs.declared.lines.Line.{Line as LineOfCode}
use Rattle.sm_lex.specs.declared.lines.Lines.{Lines}
use Rattle.sm_lex.specs.declared.part.Part.{Part}
use Rattle.sm_lex.specs.declared.part.Part.TheVariants.{Plain, Escaped, Joins, Bad as BadPart}
use Rattle.sm_lex.specs.declared.lex.Measured.{Measured}
use Rattle.sm_lex.specs.declared.token.LexRefusal.{LexRefusal}
use Rattle.sm_lex.specs.Bytes.{is_idl_white}
use Rattle.sm_lex.specs.Space.{EndsSpace, is_line_feed, without_space}
use Rattle.sm_lex.specs.Lines.{Line, lines_at, line_text, lines_text, put_before, trimmed, is_blank, leading_spaces}
use Rattle.sm_lex.specs.Tokens.{LongestNumber, TokenAt, LexRefusedAt}

-- the longest run that begins a number; it is one, or it breaks off
abbrev pub MeasuresNumber : List ℕ → Result ℕ ℕ → Type 0
MeasuresNumber s (Ok n) = LongestNumber s n × IsNumber (take n s)
MeasuresNumber s (Err n) = LongestNumber s n × (IsNumber (take n s) → ⊥)

-- the piece of whitespace or comment at the start of s
abbrev pub PartOfSpace : List ℕ → Option SpacePart → Type 0
PartOfSpace s None = EndsSpace s
PartOfSpace s (Some White) = (c : ℕ) × (s1 : List ℕ) × (s ≡ c ∷ s1) × (is_idl_white c ≡ true)
PartOfSpace s (Some (Comment n)) = (s1 : List ℕ) × (s ≡ slash ∷ (slash ∷ s1)) × (n ≡ 2 + position_or_len is_line_feed s1)

abbrev pub part_len : SpacePart → ℕ
part_len White = 1
part_len (Comment n) = n

abbrev pub line_of : LineOfCode → Line
line_of l = record { at = l.at; bytes = l.text.now }

-- the lines that are left
abbrev pub lines_left : Lines → List Line
lines_left x = cond x.done [] (lines_at x.at x.rest.now)

abbrev pub NextLine : Lines → Lines → Option LineOfCode → Type 0
NextLine old new None = lines_left old ≡ []
NextLine old new (Some l) = lines_left old ≡ line_of l ∷ lines_left new

-- the least number of leading spaces so far, with those of one more line, if it counts
abbrev pub smaller : Option ℕ → ℕ → ℕ
smaller None n = n
smaller (Some m) n = min m n

abbrev pub indent_with : Option ℕ → List ℕ → Bool → Option ℕ
indent_with least bs last = cond (not last && list_all is_blank bs) least (Some (smaller least (leading_spaces bs)))

-- what is taken off each line: nothing in a string
abbrev pub line_kept : Option ℕ → Line → Line
line_kept None l = l
line_kept (Some n) l = trimmed n l

-- what the lines below a line give, which is there but for the last
abbrev pub IsBelow : Bool → Option (Result (List ℕ) ℕ) → Type 0
IsBelow true None = Unit {0}
IsBelow true (Some below) = ⊥
IsBelow false None = ⊥
IsBelow false (Some below) = Unit {0}

abbrev pub below_text : Option (Result (List ℕ) ℕ) → Result (List ℕ) ℕ
below_text None = Ok []
below_text (Some below) = below

-- the part at the start of a line's bytes s, of which there are some
abbrev pub PartOfLine : Bool → List ℕ → Part → Type 0
PartOfLine last s (Plain n) =
    (0 < n) × (n ≤ length s) × (n < length s → slice_index s n < 128)
    × ((at : ℕ) (below : Option (Result (List ℕ) ℕ))
    → line_text at 0 s below ≡ put_before (take n s) (line_text (at + n) 0 (drop n s) below))
PartOfLine last s (Escaped e) =
    (e.count < length s) × (slice_index s e.count < 128)
    × ((at : ℕ) (below : Option (Result (List ℕ) ℕ))
    → line_text at 0 s below ≡ put_before (encode_utf8 e.character) (line_text (at + (1 + e.count)) 0 (drop (1 + e.count) s) below))
PartOfLine last s Joins = (last ≡ false) × ((at : ℕ) (below : Result (List ℕ) ℕ) → line_text at 0 s (Some below) ≡ below)
PartOfLine last s BadPart = (at : ℕ) (below : Option (Result (List ℕ) ℕ)) → IsBelow last below → line_text at 0 s below ≡ Err at

-- a line gives the text t, and then what is below it
abbrev pub LineGives : Bool → ℕ → List ℕ → List ℕ → Type 0
LineGives last at s t = (below : Option (Result (List ℕ) ℕ)) → IsBelow last below → line_text at 0 s below ≡ put_before t (below_text below)

abbrev pub LineFails : Bool → ℕ → List ℕ → ℕ → Type 0
LineFails last at s p = (below : Option (Result (List ℕ) ℕ)) → IsBelow last below → line_text at 0 s below ≡ Err p

-- whether a line has a bad escape, and at which place
abbrev pub JudgesLine : Bool → Line → Option ℕ → Type 0
JudgesLine last l None = (t : List ℕ) × LineGives last l.at l.bytes t
JudgesLine last l (Some p) = LineFails last l.at l.bytes p

abbrev pub JudgesLines : List Line → Option ℕ → Type 0
JudgesLines ls None = IsOk (lines_text ls)
JudgesLines ls (Some p) = lines_text ls ≡ Err p

-- the token at the start of s, which is at the place `start`, or why there is none
abbrev pub Measures : ℕ → List ℕ → Result Measured LexRefusal → Type 0
Measures start s (Ok m) = (0 < m.len) × (m.len ≤ length s) × IsCharBoundary s m.len × TokenAt m.kind start s m.len
Measures start s (Err e) = LexRefusedAt e start s

-- a line has no bad escape
abbrev pub IsFine : Bool → Line → Type 0
IsFine last l = (p : ℕ) → LineFails last l.at l.bytes p → ⊥

-- a line appends its text
abbrev pub PutsLine : Bool → Line → List ℕ → List ℕ → Type 0
PutsLine last l old new = (t : List ℕ) × (new ≡ old ++ t) × LineGives last l.at l.bytes t

-- the text of a piece that is a documentation comment
abbrev pub doc_of : List ℕ → Option (List ℕ)
doc_of (a ∷ (b ∷ (c ∷ t))) = cond ((a == slash) && ((b == slash) && (c == slash))) (Some (without_space t)) None
doc_of _ = None
