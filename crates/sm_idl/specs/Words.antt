-- Tokens by what they are: marks, words, strings and text blocks (Smithy 2.0, "Smithy IDL", "Grammar"), and the forms that
-- words have at their places.
use Rattle.std.specs.Prelude.{◌≡◌, ◌⊎◌, ℕ, List, Ok}
use Rattle.sm_ids.specs.Identifier.{IsIdentifier}
use Rattle.sm_ids.specs.IdText.{IsIdText}
use Rattle.sm_lex.specs.Tokens.{Lexeme}
use Rattle.sm_lex.specs.Values.{string_value, block_value}
use Rattle.sm_lex.specs.declared.token.TokenKind.TheVariants.{Word, Text, Block, Mark}
use Rattle.sm_model.specs.Formed.{StandsAmong}
use Rattle.sm_model.specs.References.{IsRelativeId}
use Rattle.sm_idl.specs.Productions.{Production, one}

-- the token is this mark, this word, a string or a text block of this text
abbrev pub IsMark : List ℕ → Lexeme → Type 0
IsMark text t = (t.kind ≡ Mark) × (t.text ≡ text)

abbrev pub IsWord : List ℕ → Lexeme → Type 0
IsWord text t = (t.kind ≡ Word) × (t.text ≡ text)

abbrev pub IsString : List ℕ → Lexeme → Type 0
IsString text t = (t.kind ≡ Text) × (string_value t.start t.text ≡ Ok text)

abbrev pub IsBlock : List ℕ → Lexeme → Type 0
IsBlock text t = (t.kind ≡ Block) × (block_value t.start t.text ≡ Ok text)

abbrev pub mark : List ℕ → Production Unit
mark text = one (λ t _. IsMark text t)

-- a mark, where this holds
abbrev pub mark_where : List ℕ → Type 0 → Production Unit
mark_where text Holds = one (λ t _. IsMark text t × Holds)

abbrev pub the_word : List ℕ → Production Unit
the_word text = one (λ t _. IsWord text t)

-- a word of this form
abbrev pub word_that : (List ℕ → Type 0) → Production (List ℕ)
word_that Is = one (λ t w. IsWord w t × Is w)

-- an id with or without its namespace; it may have a member
abbrev pub IsWordId : List ℕ → Type 0
IsWordId w = IsIdText w ⊎ IsRelativeId w

abbrev pub id : Production (List ℕ)
id = word_that IsWordId

abbrev pub identifier : Production (List ℕ)
identifier = word_that IsIdentifier

-- key = word | string
abbrev pub IsKey : List ℕ → Lexeme → Type 0
IsKey k t = IsWord k t ⊎ IsString k t

-- none of these is repeated
abbrev pub IsNew : List ℕ → List (List ℕ) → Type 0
IsNew k before = StandsAmong k before → ⊥

abbrev pub key : List (List ℕ) → Production (List ℕ)
key before = one (λ t k. IsKey k t × IsNew k before)
