-- What the methods of the reader answer. A method reads one production from the tokens that are left.
use Rattle.std.specs.Prelude.{◌≡◌, ◌⊎◌, [], ◌∷◌, ◌++◌, take}
use Rattle.sm_idl.specs.Productions.{Spaced, Tokens, Production}
use Rattle.sm_idl.specs.steps.Firm.{Class, HeadIs}

-- What stands before r spells x. Cut anywhere in r, or at its end, the tokens spell nothing else, unless what is left of
-- them begins with a token by which P goes on; and they don't begin P, unless nothing of r is left
pub record IsRead {X : Type 0} (GoesOn : Class) (P : Production X) (x : X) (s r : Tokens) : Type 0 where
  pub taken : Tokens
  pub cut : s ≡ taken ++ r
  pub spells : (q : Tokens) → P.whole x (taken ++ q) q
  pub one : (w q : Tokens) → r ≡ w ++ q → (y : X) (v : Tokens) → P.whole y (taken ++ w) v → ((y ≡ x) × (v ≡ w)) ⊎ HeadIs GoesOn v
  pub over : (w q : Tokens) → r ≡ w ++ q → P.begun (taken ++ w) → w ≡ []

-- what stands before r begins the production; but neither with the first token of r, nor at the end where there is none, it is
-- spelled or begun
pub record IsStuck {X : Type 0} (GoesOn : Class) (P : Production X) (s r : Tokens) : Type 0 where
  pub before : Tokens
  pub cut : s ≡ before ++ r
  pub begun : P.begun before
  pub wholes : (x : X) (u : Tokens) → P.whole x (before ++ take 1 r) u → HeadIs GoesOn u
  pub stops : (t : Spaced) (q : Tokens) → r ≡ t ∷ q → P.begun (before ++ t ∷ []) → ⊥
