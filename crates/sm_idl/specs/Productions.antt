-- Productions of a grammar over tokens: which tokens spell which value, and which begin one. Each production of the IDL
-- (Smithy 2.0, "Smithy IDL") is put together from the words of this file, so that what is spelled and what is begun have one
-- definition.
use Rattle.std.specs.Prelude.{◌≡◌, ◌⊎◌, ℕ, List, [], ◌∷◌, ◌++◌, Option, Some, None, slice_range}
use Rattle.sm_lex.specs.Tokens.{Lexeme}

-- a token, with the whitespace and comments between it and the token before it
pub record Spaced : Type 0 where
  pub space : List ℕ
  pub token : Lexeme

abbrev pub Tokens : Type 0
Tokens = List Spaced

-- the tokens of a text, the first of which stands behind the place `at`
abbrev pub spaced_from : List ℕ → ℕ → List Lexeme → Tokens
spaced_from text at [] = []
spaced_from text at (x ∷ xs) = record { space = slice_range text at x.start; token = x } ∷ spaced_from text x.end xs

abbrev pub spaced : List ℕ → List Lexeme → Tokens
spaced text xs = spaced_from text 0 xs

-- `whole x s r`: s begins with tokens that spell x, and behind them comes r. `begun s`: the tokens s begin what the
-- production spells, cut behind any of them: the parts before the cut are spelled whole, the part that is cut is begun itself,
-- and nothing stands of those behind it
pub record Production (X : Type 0) : Type 1 where
  pub whole : X → Tokens → Tokens → Type 0
  pub begun : Tokens → Type 0

-- one token, which says x. A condition on a token counts from that token on
abbrev pub one : {X : Type 0} → (Lexeme → X → Type 0) → Production X
one Says = record { whole = λ x s r. (t : Spaced) × (s ≡ t ∷ r) × Says t.token x; begun = λ s. s ≡ [] }

-- no token, and this value
abbrev pub gives : {X : Type 0} → X → Production X
gives value = record { whole = λ x s r. (x ≡ value) × (s ≡ r); begun = λ s. s ≡ [] }

-- one production behind the other. In the lines of a `do`, `x ← p` is p, whose value is called x behind it
infixl 10 ◌>>=◌
abbrev pub ◌>>=◌ : {X Y : Type 0} → Production X → (X → Production Y) → Production Y
p >>= q = record {
  whole = λ y s r. (x : _) × (t : Tokens) × p.whole x s t × (q x).whole y t r;
  begun = λ s. p.begun s ⊎ ((x : _) × (t : Tokens) × p.whole x s t × (q x).begun t);
}

infixl 10 ◌>>◌
abbrev pub ◌>>◌ : {X Y : Type 0} → Production X → Production Y → Production Y
p >> q = p >>= (λ _. q)

-- p | q
infixr 20 ◌or◌
abbrev pub ◌or◌ : {X : Type 0} → Production X → Production X → Production X
p or q = record { whole = λ x s r. p.whole x s r ⊎ q.whole x s r; begun = λ s. p.begun s ⊎ q.begun s }

-- [ p ]
abbrev pub OptionSpells : {X : Type 0} → Production X → Option X → Tokens → Tokens → Type 0
OptionSpells p None s r = s ≡ r
OptionSpells p (Some x) s r = p.whole x s r

abbrev pub maybe : {X : Type 0} → Production X → Production (Option X)
maybe p = record { whole = OptionSpells p; begun = λ s. (s ≡ []) ⊎ p.begun s }

-- p*, in which each may depend on those before it
abbrev pub EachSpells : {X : Type 0} → (List X → Production X) → List X → List X → Tokens → Tokens → Type 0
EachSpells p before [] s r = s ≡ r
EachSpells p before (x ∷ xs) s r = (t : Tokens) × (p before).whole x s t × EachSpells p (before ++ x ∷ []) xs t r

abbrev pub each_behind : {X : Type 0} → (List X → Production X) → List X → Production (List X)
each_behind p before = record {
  whole = EachSpells p before;
  begun = λ s. (xs : List _) × (t : Tokens) × EachSpells p before xs s t × ((t ≡ []) ⊎ (p (before ++ xs)).begun t);
}

abbrev pub each : {X : Type 0} → (List X → Production X) → Production (List X)
each p = each_behind p []

abbrev pub many : {X : Type 0} → Production X → Production (List X)
many p = each (λ _. p)
