-- What `tokens` and `documentation` answer for a text.
use Rattle.std.specs.Prelude.{◌≡◌, ℕ, ◌+◌, List, length, Option, Result, Ok, Err, Vec, map, slice_range, string_bytes}
use Rattle.std.specs.Option.{option_map}
use Rattle.std.specs.Str.{IsCharBoundary}
use Rattle.std.specs.declared.alloc.Global.{Global}
use Rattle.std.specs.declared.string.String.{String}
use Rattle.sm_bytes.specs.declared.no_memory.NoMemory.{NoMemory as OutOfMemory}
use Rattle.sm_lex.specs.declared.token.Token.{Token}
use Rattle.sm_lex.specs.declared.token.LexRefusal.{LexRefusal}
use Rattle.sm_lex.specs.declared.token.LexRefusal.TheVariants.{NoMemory}
use Rattle.sm_lex.specs.Space.{Documents}
use Rattle.sm_lex.specs.Shapes.{HasShape}
use Rattle.sm_lex.specs.Tokens.{Lexeme, lexeme_of, TokensSpell, LexRefused}

-- out of memory is the one answer that says nothing of the text
abbrev pub Lexes : List ℕ → Result (Vec Token Global) LexRefusal → Type 0
Lexes text (Ok tokens) = TokensSpell (map lexeme_of tokens.items) text
Lexes text (Err NoMemory) = Unit {0}
Lexes text (Err e) = LexRefused e text

-- a token is the text between its places, which are cuts between characters, and is what its kind says
pub record IsWhole (text : List ℕ) (x : Lexeme) : Type 0 where
  pub span : x.end ≡ x.start + length x.text
  pub slice : x.text ≡ slice_range text x.start x.end
  pub start : IsCharBoundary text x.start
  pub end : IsCharBoundary text x.end
  pub shape : HasShape x.kind x.start x.text

-- the text of the documentation comments before the first token of s
abbrev pub HasDocs : List ℕ → Result (Option (String Global)) OutOfMemory → Type 0
HasDocs s (Ok docs) = Documents s (option_map string_bytes docs)
HasDocs s (Err refusal) = Unit {0}
