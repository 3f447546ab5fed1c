-- The next token of a reader, and what is left behind it.
use Rattle.std.proofs.Common.{◌≡◌, ℕ, ◌+◌, ◌<◌, List, ◌∷◌, drop, map, length, slice_index_or, slice_range, ap}
use Rattle.std.proofs.lemmas.List.{drop_more}
use Rattle.sm_lex.specs.Tokens.{lexeme_of}
use Rattle.sm_lex.specs.declared.token.Token.{Token}
use Rattle.sm_idl.specs.Productions.{spaced_from}

pub taken : (text : List ℕ) (behind : ℕ) (xs : List Token) (i : ℕ) (d : Token) → i < length xs
    → spaced_from text behind (map lexeme_of (drop i xs))
    ≡ record { space = slice_range text behind (slice_index_or xs i d).start; token = lexeme_of (slice_index_or xs i d) }
    ∷ spaced_from text (slice_index_or xs i d).end (map lexeme_of (drop (i + 1) xs))
taken text behind xs i d inside = ap (λ l. spaced_from text behind (map lexeme_of l)) (drop_more xs i d inside)
