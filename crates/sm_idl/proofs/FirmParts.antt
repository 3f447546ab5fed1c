-- Productions put together from such as can be read from the front are such: one token, none, one behind the other, either of
-- two, and what may be missing.
use Rattle.std.proofs.Common.{◌≡◌, ◌⊎◌, inl, inr, [], ◌∷◌, ◌++◌, refl, sym, subst, ◌∙◌}
use Rattle.sm_lex.specs.Tokens.{Lexeme}
use Rattle.sm_idl.specs.Productions.{Spaced, Tokens, Production, one, gives}
use Rattle.sm_idl.specs.steps.ReaderView.{NoToken}
use Rattle.sm_idl.specs.steps.Firm.{Class, HeadIs, Takes, IsFirm}
use Rattle.sm_idl.proofs.TokenLists.{heads, tails, no_tokens, head_wider, ends}

-- the tokens that say something
abbrev pub Spells : {X : Type 0} → (Lexeme → X → Type 0) → Class
Spells Is t = (x : _) × Is t.token x

module _ {X : Type 0} (Is : Lexeme → X → Type 0) (same : (t : Lexeme) (x y : X) → Is t x → Is t y → x ≡ y) where
  one_takes : (x : X) (s r : Tokens) → (one Is).whole x s r → Takes ⊥ (one Is) x s r
  one_takes x s r (t, e, h) = record {
    taken = t ∷ [];
    cut = e;
    some = λ f. no_tokens t [] (sym f);
    spells = λ q. (t, refl, h);
  }

  one_head : (x : X) (s r : Tokens) → (one Is).whole x s r → (⊥ × (s ≡ r)) ⊎ HeadIs (Spells Is) s
  one_head x s r (t, e, h) = inr (subst (HeadIs (Spells Is)) (sym e) (x, h))

  one_single : (x y : X) (s r q : Tokens) → (one Is).whole x s r → (one Is).whole y s q
      → ((x ≡ y) × (r ≡ q)) ⊎ (HeadIs NoToken r ⊎ HeadIs NoToken q)
  one_single x y s r q (t, e, h) (u, f, k) =
      let g : t ∷ r ≡ u ∷ q = sym e ∙ f in
      inl (same u.token x y (subst (λ w. Is w.token x) (heads t u r q g) h) k, tails t u r q g)

  one_cut : (x : X) (s r : Tokens) → (one Is).whole x s r → s ≡ [] → (r ≡ []) ⊎ HeadIs NoToken r
  one_cut x s r (t, e, h) f = absurd (no_tokens t r (sym f ∙ e))

  one_prefix : (x : X) (p : Tokens) (t : Spaced) (q : Tokens) → (one Is).whole x (p ++ t ∷ q) [] → p ≡ []
  one_prefix x [] t q h = refl
  one_prefix x (u ∷ p) t q (v, e, h) = absurd (ends p t q (tails u v (p ++ t ∷ q) [] e))

  pub firm_one : IsFirm ⊥ (Spells Is) NoToken (one Is)
  firm_one = record {
    empty = refl;
    takes = one_takes;
    head = one_head;
    head_cut = λ s e. inl e;
    single = one_single;
    cut = one_cut;
    prefix = one_prefix;
    closed = λ p t q e. absurd (ends p t q e);
  }

module _ {X : Type 0} (v : X) where
  gives_prefix : (x : X) (p : Tokens) (t : Spaced) (q : Tokens) → (gives v).whole x (p ++ t ∷ q) [] → p ≡ []
  gives_prefix x p t q h = absurd (ends p t q h.1)

  pub firm_gives : IsFirm (Unit {0}) NoToken NoToken (gives v)
  firm_gives = record {
    empty = refl;
    takes = λ x s r h. record { taken = []; cut = h.1; some = λ _. tt; spells = λ q. (h.0, refl) };
    head = λ x s r h. inl (tt, h.1);
    head_cut = λ s e. inl e;
    single = λ x y s r q h k. inl (h.0 ∙ sym k.0, sym h.1 ∙ k.1);
    cut = λ x s r h e. inl (sym h.1 ∙ e);
    prefix = gives_prefix;
    closed = λ p t q e. absurd (ends p t q e);
  }

-- the same with wider classes
pub firm_wider : {X : Type 0} {E F : Type 0} {A B G H : Class} {P : Production X} → (E → F) → ((t : Spaced) → A t → B t)
    → ((t : Spaced) → G t → H t) → IsFirm E A G P → IsFirm F B H P
firm_wider {E = E} {F = F} {A = A} {B = B} {G = G} {H = H} {P = P} e a g f = record {
  empty = f.empty;
  takes = λ x s r h. let k = f.takes x s r h in record { taken = k.taken; cut = k.cut; some = λ n. e (k.some n); spells = k.spells };
  head = λ x s r h. elim (f.head x s r h) [ inl k ↦ inl (e k.0, k.1) | inr k ↦ inr (head_wider A B s a k) ];
  head_cut = λ s h. elim (f.head_cut s h) [ inl k ↦ inl k | inr k ↦ inr (head_wider A B s a k) ];
  single = λ x y s r q h k. elim (f.single x y s r q h k) [
    | inl m ↦ inl m
    | inr m ↦ elim m [
      | inl n ↦ inr (inl (head_wider G H r g n))
      | inr n ↦ inr (inr (head_wider G H q g n))
    ]
  ];
  cut = λ x s r h k. elim (f.cut x s r h k) [ inl m ↦ inl m | inr m ↦ inr (head_wider G H r g m) ];
  prefix = f.prefix;
  closed = f.closed;
}
