-- Either of two, what may be missing, and any number, each read from the front.
use Rattle.std.proofs.Common.{◌≡◌, ◌⊎◌, inl, inr, [], ◌∷◌, ◌++◌, Option, Some, None, refl, sym, ap, ◌∙◌}
use Rattle.sm_idl.specs.Productions.{Spaced, Tokens, Production, ◌or◌, maybe, OptionSpells}
use Rattle.sm_idl.specs.steps.Classes.{Either}
use Rattle.sm_idl.specs.steps.Firm.{Class, HeadIs, AreApart, Takes, IsFirm}
use Rattle.sm_idl.proofs.TokenLists.{head_apart, head_moved, ends}

pub head_left : (A B : Class) (s : Tokens) → HeadIs A s → HeadIs (Either A B) s
head_left A B [] h = h
head_left A B (t ∷ s) h = inl h

pub head_right : (A B : Class) (s : Tokens) → HeadIs B s → HeadIs (Either A B) s
head_right A B [] h = h
head_right A B (t ∷ s) h = inr h

-- what begins with a token of a class takes some
module _ {X : Type 0} (A G : Class) (P : Production X) (p : IsFirm ⊥ A G P) where
  pub starts : (x : X) (s r : Tokens) → P.whole x s r → HeadIs A s
  starts x s r h = elim (p.head x s r h) [ inl e ↦ absurd e.0 | inr a ↦ a ]

module _ {X : Type 0} (A B G H : Class) (P Q : Production X) (p : IsFirm ⊥ A G P) (q : IsFirm ⊥ B H Q) (apart : AreApart A B) where
  or_takes : (x : X) (s r : Tokens) → (P or Q).whole x s r → Takes ⊥ (P or Q) x s r
  or_takes x s r (inl h) = let a = p.takes x s r h in record { taken = a.taken; cut = a.cut; some = a.some; spells = λ w. inl (a.spells w) }
  or_takes x s r (inr h) = let a = q.takes x s r h in record { taken = a.taken; cut = a.cut; some = a.some; spells = λ w. inr (a.spells w) }

  or_head : (x : X) (s r : Tokens) → (P or Q).whole x s r → (⊥ × (s ≡ r)) ⊎ HeadIs (Either A B) s
  or_head x s r (inl h) = inr (head_left A B s (starts A G P p x s r h))
  or_head x s r (inr h) = inr (head_right A B s (starts B H Q q x s r h))

  or_head_cut : (s : Tokens) → (P or Q).begun s → (s ≡ []) ⊎ HeadIs (Either A B) s
  or_head_cut s (inl h) = elim (p.head_cut s h) [ inl e ↦ inl e | inr a ↦ inr (head_left A B s a) ]
  or_head_cut s (inr h) = elim (q.head_cut s h) [ inl e ↦ inl e | inr a ↦ inr (head_right A B s a) ]

  -- one spells, so the other doesn't
  only_one : (x y : X) (s r w : Tokens) → P.whole x s r → Q.whole y s w → ⊥
  only_one x y s r w h k = head_apart A B s apart (starts A G P p x s r h) (starts B H Q q y s w k)

  or_single : (x y : X) (s r w : Tokens) → (P or Q).whole x s r → (P or Q).whole y s w
      → ((x ≡ y) × (r ≡ w)) ⊎ (HeadIs (Either G H) r ⊎ HeadIs (Either G H) w)
  or_single x y s r w (inl h) (inl k) = elim (p.single x y s r w h k) [
    | inl e ↦ inl e
    | inr a ↦ inr (elim a [
      | inl b ↦ inl (head_left G H r b)
      | inr b ↦ inr (head_left G H w b)
    ])
  ]
  or_single x y s r w (inr h) (inr k) = elim (q.single x y s r w h k) [
    | inl e ↦ inl e
    | inr a ↦ inr (elim a [
      | inl b ↦ inl (head_right G H r b)
      | inr b ↦ inr (head_right G H w b)
    ])
  ]
  or_single x y s r w (inl h) (inr k) = absurd (only_one x y s r w h k)
  or_single x y s r w (inr h) (inl k) = absurd (only_one y x s w r k h)

  or_cut : (x : X) (s r : Tokens) → (P or Q).whole x s r → (P or Q).begun s → (r ≡ []) ⊎ HeadIs (Either G H) r
  or_cut x s r (inl h) (inl k) = elim (p.cut x s r h k) [ inl e ↦ inl e | inr b ↦ inr (head_left G H r b) ]
  or_cut x s r (inr h) (inr k) = elim (q.cut x s r h k) [ inl e ↦ inl e | inr b ↦ inr (head_right G H r b) ]
  or_cut x s r (inl h) (inr k) =
      let a = starts A G P p x s r h in
      elim (q.head_cut s k) [ inl e ↦ absurd (head_moved A s [] e a) | inr b ↦ absurd (head_apart A B s apart a b) ]
  or_cut x s r (inr h) (inl k) =
      let b = starts B H Q q x s r h in
      elim (p.head_cut s k) [ inl e ↦ absurd (head_moved B s [] e b) | inr a ↦ absurd (head_apart A B s apart a b) ]

  or_prefix : (x : X) (a : Tokens) (t : Spaced) (b : Tokens) → (P or Q).whole x (a ++ t ∷ b) [] → (P or Q).begun a
  or_prefix x a t b (inl h) = inl (p.prefix x a t b h)
  or_prefix x a t b (inr h) = inr (q.prefix x a t b h)

  or_closed : (a : Tokens) (t : Spaced) (b : Tokens) → (P or Q).begun (a ++ t ∷ b) → (P or Q).begun a
  or_closed a t b (inl h) = inl (p.closed a t b h)
  or_closed a t b (inr h) = inr (q.closed a t b h)

  pub firm_or : IsFirm ⊥ (Either A B) (Either G H) (P or Q)
  firm_or = record {
    empty = inl p.empty;
    takes = or_takes;
    head = or_head;
    head_cut = or_head_cut;
    single = or_single;
    cut = or_cut;
    prefix = or_prefix;
    closed = or_closed;
  }

module _ {X : Type 0} (A G : Class) (P : Production X) (p : IsFirm ⊥ A G P) where
  maybe_takes : (x : Option X) (s r : Tokens) → OptionSpells P x s r → Takes (Unit {0}) (maybe P) x s r
  maybe_takes None s r e = record { taken = []; cut = e; some = λ _. tt; spells = λ w. refl }
  maybe_takes (Some x) s r h = let a = p.takes x s r h in record { taken = a.taken; cut = a.cut; some = λ _. tt; spells = a.spells }

  maybe_head : (x : Option X) (s r : Tokens) → OptionSpells P x s r → (Unit {0} × (s ≡ r)) ⊎ HeadIs A s
  maybe_head None s r e = inl (tt, e)
  maybe_head (Some x) s r h = inr (starts A G P p x s r h)

  maybe_head_cut : (s : Tokens) → (maybe P).begun s → (s ≡ []) ⊎ HeadIs A s
  maybe_head_cut s (inl e) = inl e
  maybe_head_cut s (inr h) = p.head_cut s h

  maybe_single : (x y : Option X) (s r w : Tokens) → OptionSpells P x s r → OptionSpells P y s w
      → ((x ≡ y) × (r ≡ w)) ⊎ (HeadIs (Either A G) r ⊎ HeadIs (Either A G) w)
  maybe_single None None s r w e f = inl (refl, sym e ∙ f)
  maybe_single None (Some y) s r w e k = inr (inl (head_left A G r (head_moved A s r e (starts A G P p y s w k))))
  maybe_single (Some x) None s r w h f = inr (inr (head_left A G w (head_moved A s w f (starts A G P p x s r h))))
  maybe_single (Some x) (Some y) s r w h k = elim (p.single x y s r w h k) [
    | inl e ↦ inl (ap Some e.0, e.1)
    | inr a ↦ inr (elim a [ inl b ↦ inl (head_right A G r b) | inr b ↦ inr (head_right A G w b) ])
  ]

  maybe_cut : (x : Option X) (s r : Tokens) → OptionSpells P x s r → (maybe P).begun s → (r ≡ []) ⊎ HeadIs (Either A G) r
  maybe_cut None s r e (inl f) = inl (sym e ∙ f)
  maybe_cut None s r e (inr k) = elim (p.head_cut s k) [ inl f ↦ inl (sym e ∙ f) | inr a ↦ inr (head_left A G r (head_moved A s r e a)) ]
  maybe_cut (Some x) s r h (inl f) = absurd (head_moved A s [] f (starts A G P p x s r h))
  maybe_cut (Some x) s r h (inr k) = elim (p.cut x s r h k) [ inl e ↦ inl e | inr b ↦ inr (head_right A G r b) ]

  maybe_prefix : (x : Option X) (a : Tokens) (t : Spaced) (b : Tokens) → OptionSpells P x (a ++ t ∷ b) [] → (maybe P).begun a
  maybe_prefix None a t b e = absurd (ends a t b e)
  maybe_prefix (Some x) a t b h = inr (p.prefix x a t b h)

  maybe_closed : (a : Tokens) (t : Spaced) (b : Tokens) → (maybe P).begun (a ++ t ∷ b) → (maybe P).begun a
  maybe_closed a t b (inl e) = absurd (ends a t b e)
  maybe_closed a t b (inr h) = inr (p.closed a t b h)

  pub firm_maybe : IsFirm (Unit {0}) A (Either A G) (maybe P)
  firm_maybe = record {
    empty = inl refl;
    takes = maybe_takes;
    head = maybe_head;
    head_cut = maybe_head_cut;
    single = maybe_single;
    cut = maybe_cut;
    prefix = maybe_prefix;
    closed = maybe_closed;
  }
