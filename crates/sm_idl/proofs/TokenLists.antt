-- Lists of tokens: their heads, and two cuts of one list.
use Rattle.std.proofs.Common.{◌≡◌, [], ◌∷◌, ◌++◌, take, refl, sym, ap, subst}
use Rattle.sm_idl.specs.Productions.{Spaced, Tokens}
use Rattle.sm_idl.specs.steps.Firm.{Class, HeadIs, AreApart}

pub heads : (t u : Spaced) (s r : Tokens) → t ∷ s ≡ u ∷ r → t ≡ u
heads t u s r e = cc

pub tails : (t u : Spaced) (s r : Tokens) → t ∷ s ≡ u ∷ r → s ≡ r
tails t u s r e = cc

pub no_tokens : (t : Spaced) (s : Tokens) → [] ≡ t ∷ s → ⊥
no_tokens t s e = cc

pub head_apart : (C D : Class) (s : Tokens) → AreApart C D → HeadIs C s → HeadIs D s → ⊥
head_apart C D [] apart h k = h
head_apart C D (t ∷ s) apart h k = apart t h k

pub head_wider : (C D : Class) (s : Tokens) → ((t : Spaced) → C t → D t) → HeadIs C s → HeadIs D s
head_wider C D [] wider h = h
head_wider C D (t ∷ s) wider h = wider t h

pub head_moved : (C : Class) (s r : Tokens) → s ≡ r → HeadIs C s → HeadIs C r
head_moved C s r e h = subst (HeadIs C) e h

-- tokens of which no one stands before the rest are none
pub no_front : (p r : Tokens) → [] ≡ p ++ r → r ≡ []
no_front [] r e = sym e
no_front (t ∷ p) r e = absurd (no_tokens t (p ++ r) e)

pub ends : (p : Tokens) (t : Spaced) (q : Tokens) → p ++ t ∷ q ≡ [] → ⊥
ends [] t q e = no_tokens t q (sym e)
ends (u ∷ p) t q e = no_tokens u (p ++ t ∷ q) (sym e)

-- of two cuts of a list: the second stands behind the token t, or at it or before it
pub data Cuts (p : Tokens) (t : Spaced) (q a s : Tokens) : Type 0 where
  beyond : (d : Tokens) → a ≡ p ++ t ∷ d → q ≡ d ++ s → Cuts p t q a s
  within : (d : Tokens) → p ≡ a ++ d → s ≡ d ++ t ∷ q → Cuts p t q a s

further : (p : Tokens) (t : Spaced) (q a s : Tokens) (u : Spaced) → Cuts p t q a s → Cuts (u ∷ p) t q (u ∷ a) s
further p t q a s u (beyond d e f) = beyond d (ap (λ x. u ∷ x) e) f
further p t q a s u (within d e f) = within d (ap (λ x. u ∷ x) e) f

pub cuts : (p : Tokens) (t : Spaced) (q a s : Tokens) → p ++ t ∷ q ≡ a ++ s → Cuts p t q a s
cuts p t q [] s e = within p refl (sym e)
cuts [] t q (u ∷ a) s e = beyond a (ap (λ x. x ∷ a) (sym (heads t u q (a ++ s) e))) (tails t u q (a ++ s) e)
cuts (v ∷ p) t q (u ∷ a) s e =
    subst (λ w. Cuts (v ∷ p) t q (w ∷ a) s) (heads v u (p ++ t ∷ q) (a ++ s) e)
    (further p t q a s v (cuts p t q a s (tails v u (p ++ t ∷ q) (a ++ s) e)))

pub both_none : (p r : Tokens) → p ++ r ≡ [] → (p ≡ []) × (r ≡ [])
both_none [] r e = (refl, e)
both_none (t ∷ p) r e = absurd (no_tokens t (p ++ r) (sym e))

-- the head of a part with one token more is that of the whole, and the other way
pub head_of_part : (C : Class) (a r : Tokens) → HeadIs C (a ++ take 1 r) → HeadIs C (a ++ r)
head_of_part C [] [] h = h
head_of_part C [] (t ∷ r) h = h
head_of_part C (u ∷ a) r h = h

pub head_of_whole : (C : Class) (a r : Tokens) → HeadIs C (a ++ r) → HeadIs C (a ++ take 1 r)
head_of_whole C [] [] h = h
head_of_whole C [] (t ∷ r) h = h
head_of_whole C (u ∷ a) r h = h

pub head_of_cut : (C : Class) (a : Tokens) (t : Spaced) (q : Tokens) → HeadIs C (a ++ t ∷ []) → HeadIs C (a ++ t ∷ q)
head_of_cut C [] t q h = h
head_of_cut C (u ∷ a) t q h = h

pub head_up_to : (C : Class) (a : Tokens) (t : Spaced) (q : Tokens) → HeadIs C (a ++ t ∷ q) → HeadIs C (a ++ t ∷ [])
head_up_to C [] t q h = h
head_up_to C (u ∷ a) t q h = h
