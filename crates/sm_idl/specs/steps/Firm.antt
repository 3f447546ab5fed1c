-- What makes a production readable from the front, one token at a time: what it spells has one reading and one end, unless a
-- token by which it may go on stands behind it.
use Rattle.std.specs.Prelude.{◌≡◌, ◌⊎◌, [], ◌∷◌, ◌++◌}
use Rattle.sm_idl.specs.Productions.{Spaced, Tokens, Production}

-- tokens of a class
abbrev pub Class : Type 1
Class = Spaced → Type 0

-- the first of these tokens is of the class
abbrev pub HeadIs : Class → Tokens → Type 0
HeadIs C [] = ⊥
HeadIs C (t ∷ s) = C t

-- no token is of both
abbrev pub AreApart : Class → Class → Type 0
AreApart C D = (t : Spaced) → C t → D t → ⊥

-- the tokens p spell x, whatever stands behind them; where there are none, x may be empty
pub record Takes {X : Type 0} (Empty : Type 0) (P : Production X) (x : X) (s r : Tokens) : Type 0 where
  pub taken : Tokens
  pub cut : s ≡ taken ++ r
  pub some : taken ≡ [] → Empty
  pub spells : (q : Tokens) → P.whole x (taken ++ q) q

-- Empty: what is spelled may be no tokens; Starts: the tokens with which it begins; GoesOn: those by which it may go on
pub record IsFirm {X : Type 0} (Empty : Type 0) (Starts GoesOn : Class) (P : Production X) : Type 0 where
  pub empty : P.begun []
  pub takes : (x : X) (s r : Tokens) → P.whole x s r → Takes Empty P x s r
  pub head : (x : X) (s r : Tokens) → P.whole x s r → (Empty × (s ≡ r)) ⊎ HeadIs Starts s
  pub head_cut : (s : Tokens) → P.begun s → (s ≡ []) ⊎ HeadIs Starts s
  pub single : (x y : X) (s r q : Tokens) → P.whole x s r → P.whole y s q → (Path X x y × (r ≡ q)) ⊎ (HeadIs GoesOn r ⊎ HeadIs GoesOn q)
  pub cut : (x : X) (s r : Tokens) → P.whole x s r → P.begun s → (r ≡ []) ⊎ HeadIs GoesOn r
  pub prefix : (x : X) (p : Tokens) (t : Spaced) (q : Tokens) → P.whole x (p ++ t ∷ q) [] → P.begun p
  pub closed : (p : Tokens) (t : Spaced) (q : Tokens) → P.begun (p ++ t ∷ q) → P.begun p
