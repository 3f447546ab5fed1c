-- The laws of the crate as statements, each the contract of a function in `laws`.
use Rattle.std.specs.Prelude.{◌≡◌, ℕ, List, Option}
use Rattle.sm_lex.specs.declared.token.LexRefusal.{LexRefusal}
use Rattle.sm_lex.specs.Space.{Documents}
use Rattle.sm_lex.specs.Tokens.{Lexeme, TokensSpell, LexRefused}

-- a text is spelled by at most one list of tokens
abbrev pub OneReading : Type 0
OneReading = (text : List ℕ) (xs ys : List Lexeme) → TokensSpell xs text → TokensSpell ys text → xs ≡ ys

-- a text is refused for at most one reason
abbrev pub OneRefusal : Type 0
OneRefusal = (text : List ℕ) (e f : LexRefusal) → LexRefused e text → LexRefused f text → e ≡ f

-- and a text that is refused is spelled by no tokens
abbrev pub SpelledOrRefused : Type 0
SpelledOrRefused = (text : List ℕ) (xs : List Lexeme) (e : LexRefusal) → TokensSpell xs text → LexRefused e text → ⊥

-- the documentation comments before a text's first token have one text, or there are none
abbrev pub OneDocumentation : Type 0
OneDocumentation = (text : List ℕ) (a b : Option (List ℕ)) → Documents text a → Documents text b → a ≡ b
