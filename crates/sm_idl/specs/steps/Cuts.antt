-- Tokens whose places are cuts between characters, one behind the other.
use Rattle.std.specs.Prelude.{◌≡◌, ◌≤◌, ℕ, List, ◌∷◌, drop}
use Rattle.std.specs.Str.{IsCharBoundary}
use Rattle.sm_lex.specs.declared.token.Token.{Token}

pub record AreCuts (text : List ℕ) (xs : List Token) : Type 0 where
  pub start : (i : ℕ) (t : Token) (r : List Token) → drop i xs ≡ t ∷ r → IsCharBoundary text t.start
  pub end : (i : ℕ) (t : Token) (r : List Token) → drop i xs ≡ t ∷ r → IsCharBoundary text t.end
  pub order : (i : ℕ) (t u : Token) (r : List Token) → drop i xs ≡ t ∷ (u ∷ r) → t.end ≤ u.start
