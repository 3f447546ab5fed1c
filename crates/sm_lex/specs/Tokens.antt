-- The tokens of a model's text (Smithy 2.0, "Smithy IDL", "Grammar"): what each is, how a list of them
-- spells a text with whitespace and comments between, and why a text has none. Each token is the longest
-- that its rule gives.
use Rattle.std.specs.Prelude.{◌≡◌, ℕ, ◌+◌, ◌-◌, ◌≤◌, ◌<◌, ◌⊎◌, Bool, true, false, cond, List, [], ◌∷◌, ◌++◌, take, drop, length, codes}
use Rattle.std.specs.Prelude.{◌==◌, Option, Some, None, Err, IsOk, slice_range}
use Rattle.std.specs.Option.{option_map}
use Rattle.std.specs.List.{prefix_len}
use Rattle.sm_bytes.specs.Ascii.{quote}
use Rattle.sm_tree.specs.Numbers.{IsNumber}
use Rattle.sm_lex.specs.declared.byte.First.TheVariants.{Word as a_word, Number as a_number, Quote as a_quote, Mark as a_mark}
use Rattle.sm_lex.specs.declared.byte.First.TheVariants.{Stray as a_stray, Slash as a_slash}
use Rattle.sm_lex.specs.declared.token.TokenKind.{TokenKind}
use Rattle.sm_lex.specs.declared.token.TokenKind.TheVariants.{Word, Number, Text, Block, Mark}
use Rattle.sm_lex.specs.declared.token.Token.{Token}
use Rattle.sm_lex.specs.declared.token.LexRefusal.{LexRefusal}
use Rattle.sm_lex.specs.declared.token.LexRefusal.TheVariants.{Bad, UnclosedString, UnclosedBlock, BadEscape, NoMemory}
use Rattle.sm_lex.specs.Bytes.{is_word_byte, FirstIs, opens_with}
use Rattle.sm_lex.specs.Space.{SkipsSpace}
use Rattle.sm_lex.specs.Lines.{line_end_len, is_backslash}
use Rattle.sm_lex.specs.Values.{string_value, block_value}

-- some number begins with these bytes
abbrev pub BeginsNumber : List ℕ → Type 0
BeginsNumber p = (more : List ℕ) × IsNumber (p ++ more)

-- the longest run at the start of s with which some number begins has n bytes
pub record LongestNumber (s : List ℕ) (n : ℕ) : Type 0 where
  pub within : n ≤ length s
  pub begins : BeginsNumber (take n s)
  pub stops : n < length s → BeginsNumber (take (n + 1) s) → ⊥

-- how many bytes stand before the first place at which `ends` holds; what a backslash escapes is no such
-- place, and `escaped` says that one stands before s
abbrev pub first_end : (List ℕ → Bool) → Bool → List ℕ → Option ℕ
first_end ends escaped [] = None
first_end ends true (c ∷ s) = option_map (λ n. n + 1) (first_end ends false s)
first_end ends false (c ∷ s) = cond (ends (c ∷ s)) (Some 0) (option_map (λ n. n + 1) (first_end ends (is_backslash c) s))

abbrev pub one_quote : List ℕ → Bool
one_quote [] = false
one_quote (c ∷ s) = c == quote

abbrev pub three_quotes : List ℕ → Bool
three_quotes s = opens_with s (codes "\"\"\"")

-- a string, which three quotation marks never begin
pub record OpensString (s : List ℕ) : Type 0 where
  pub first : FirstIs a_quote s
  pub not_three : three_quotes s ≡ false

-- a text block: three quotation marks and a line end
pub record OpensBlock (s : List ℕ) : Type 0 where
  pub three : three_quotes s ≡ true
  pub line_end : 0 < line_end_len (drop 3 s)

-- the length of the string or the block at the start of s, its quotation marks included
abbrev pub string_len : List ℕ → Option ℕ
string_len s = option_map (λ n. n + 2) (first_end one_quote false (drop 1 s))

abbrev pub block_len : List ℕ → Option ℕ
block_len s = option_map (λ n. n + 6) (first_end three_quotes false (drop 3 s))

-- a token of this kind, of n bytes, stands at the start of s, which is at the place `start`. `:=` goes
-- before `:`
abbrev pub TokenAt : TokenKind → ℕ → List ℕ → ℕ → Type 0
TokenAt Word start s n = FirstIs a_word s × (n ≡ prefix_len is_word_byte s)
TokenAt Number start s n = FirstIs a_number s × LongestNumber s n × IsNumber (take n s)
TokenAt Text start s n = OpensString s × (string_len s ≡ Some n) × IsOk (string_value start (take n s))
TokenAt Block start s n = OpensBlock s × (block_len s ≡ Some n) × IsOk (block_value start (take n s))
TokenAt Mark start s n = FirstIs a_mark s × (n ≡ cond (opens_with s (codes ":=")) 2 1)

-- a byte that begins neither a token nor whitespace nor a comment
abbrev pub IsStray : List ℕ → Type 0
IsStray s = FirstIs a_stray s ⊎ (FirstIs a_slash s × (opens_with s (codes "//") ≡ false))

-- a number that breaks off behind n bytes
pub record BreaksOff (s : List ℕ) (n : ℕ) : Type 0 where
  pub first : FirstIs a_number s
  pub longest : LongestNumber s n
  pub no_number : IsNumber (take n s) → ⊥

-- three quotation marks without a line end behind them
pub record OpensNothing (s : List ℕ) : Type 0 where
  pub three : three_quotes s ≡ true
  pub no_line_end : line_end_len (drop 3 s) ≡ 0

-- no token stands at the start of s, which is at the place `start`, for this reason
abbrev pub LexRefusedAt : LexRefusal → ℕ → List ℕ → Type 0
LexRefusedAt (Bad at) start s =
    (IsStray s × (at ≡ start))
    ⊎ (((n : ℕ) × BreaksOff s n × (at ≡ start + n)) ⊎ (OpensNothing s × (at ≡ start + 3)))
LexRefusedAt (UnclosedString at) start s = OpensString s × (string_len s ≡ None) × (at ≡ start)
LexRefusedAt (UnclosedBlock at) start s = OpensBlock s × (block_len s ≡ None) × (at ≡ start)
LexRefusedAt (BadEscape at) start s =
    (n : ℕ)
    × ((OpensString s × (string_len s ≡ Some n) × (string_value start (take n s) ≡ Err at))
    ⊎ (OpensBlock s × (block_len s ≡ Some n) × (block_value start (take n s) ≡ Err at)))
LexRefusedAt NoMemory start s = ⊥

-- a token as data: its kind, its bytes, the place of the first, and the place behind the last
pub record Lexeme : Type 0 where
  pub kind : TokenKind
  pub text : List ℕ
  pub start : ℕ
  pub end : ℕ

abbrev pub lexeme_of : Token → Lexeme
lexeme_of t = record { kind = t.kind; text = t.text.now; start = t.start; end = t.end }

-- behind the place `at` come whitespace and comments, and then this token
pub record IsNextToken (text : List ℕ) (at : ℕ) (x : Lexeme) : Type 0 where
  pub between : SkipsSpace (drop at text) (drop x.start text)
  pub in_order : at ≤ x.start
  pub some_bytes : x.start < x.end
  pub inside : x.end ≤ length text
  pub token : TokenAt x.kind x.start (drop x.start text) (x.end - x.start)
  pub slice : x.text ≡ slice_range text x.start x.end

-- from the place `at` on, these tokens lead to the place `to`
abbrev pub TokensLead : List ℕ → ℕ → List Lexeme → ℕ → Type 0
TokensLead text at [] to = at ≡ to
TokensLead text at (x ∷ xs) to = IsNextToken text at x × TokensLead text x.end xs to

-- these tokens spell the text, with whitespace and comments between
abbrev pub TokensSpell : List Lexeme → List ℕ → Type 0
TokensSpell xs text = (to : ℕ) × TokensLead text 0 xs to × SkipsSpace (drop to text) []

-- the text is refused for this reason: behind some tokens, with which it begins, none stands
abbrev pub LexRefused : LexRefusal → List ℕ → Type 0
LexRefused e text =
    (xs : List Lexeme) × (to start : ℕ) × TokensLead text 0 xs to × SkipsSpace (drop to text) (drop start text) × (start ≤ length text)
    × LexRefusedAt e start (drop start text)
