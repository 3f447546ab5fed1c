-- One production behind the other, each read from the front, is read from the front: the first must not go on with a token that
-- begins the second.
use Rattle.std.proofs.Common.{◌≡◌, ◌⊎◌, inl, inr, [], ◌∷◌, ◌++◌, sym, ap, subst, ◌∙◌, append_assoc, append-nil}
use Rattle.sm_idl.specs.Productions.{Spaced, Tokens, Production, ◌>>=◌}
use Rattle.sm_idl.specs.steps.Firm.{Class, HeadIs, AreApart, Takes, IsFirm}
use Rattle.sm_idl.proofs.TokenLists.{head_apart, head_moved, no_front, both_none, beyond, within, cuts}

-- the tokens that begin a first one or, where that may be none, a second
abbrev pub StartsBoth : Type 0 → Class → Class → Class
StartsBoth E A B t = A t ⊎ (E × B t)

-- the tokens by which a second one goes on, or a first where the second may be none
abbrev pub GoesOnBoth : Type 0 → Class → Class → Class
GoesOnBoth F G H t = H t ⊎ (F × G t)

head_first : (E : Type 0) (A B : Class) (s : Tokens) → HeadIs A s → HeadIs (StartsBoth E A B) s
head_first E A B [] h = h
head_first E A B (t ∷ s) h = inl h

head_second : (E : Type 0) (A B : Class) (s : Tokens) → E → HeadIs B s → HeadIs (StartsBoth E A B) s
head_second E A B [] e h = h
head_second E A B (t ∷ s) e h = inr (e, h)

module _ {X Y : Type 0} (E F : Type 0) (A B G H : Class) (P : Production X) (Q : X → Production Y)
    (p : IsFirm E A G P) (q : (x : X) → IsFirm F B H (Q x)) (apart : AreApart G B) where
  both_takes : (y : Y) (s r : Tokens) → (P >>= Q).whole y s r → Takes (E × F) (P >>= Q) y s r
  both_takes y s r (x, t, h, k) =
      let a = p.takes x s t h in
      let b = (q x).takes y t r k in
      record {
        taken = a.taken ++ b.taken;
        cut = a.cut ∙ ap (λ w. a.taken ++ w) b.cut ∙ sym (append_assoc a.taken b.taken r);
        some = λ e. let n = both_none a.taken b.taken e in (a.some n.0, b.some n.1);
        spells = λ w. (
          x,
          b.taken ++ w,
          subst (λ z. P.whole x z (b.taken ++ w)) (sym (append_assoc a.taken b.taken w))
              (a.spells (b.taken ++ w)),
          b.spells w,
        );
      }

  both_head : (y : Y) (s r : Tokens) → (P >>= Q).whole y s r → ((E × F) × (s ≡ r)) ⊎ HeadIs (StartsBoth E A B) s
  both_head y s r (x, t, h, k) = elim (p.head x s t h) [
    | inr m ↦ inr (head_first E A B s m)
    | inl m ↦ elim ((q x).head y t r k) [
      | inl n ↦ inl ((m.0, n.0), m.1 ∙ n.1)
      | inr n ↦ inr (head_second E A B s m.0 (head_moved B t s (sym m.1) n))
    ]
  ]

  both_head_cut : (s : Tokens) → (P >>= Q).begun s → (s ≡ []) ⊎ HeadIs (StartsBoth E A B) s
  both_head_cut s (inl h) = elim (p.head_cut s h) [ inl e ↦ inl e | inr m ↦ inr (head_first E A B s m) ]
  both_head_cut s (inr (x, t, h, k)) = elim (p.head x s t h) [
    | inr m ↦ inr (head_first E A B s m)
    | inl m ↦ elim ((q x).head_cut t k) [
      | inl e ↦ inl (m.1 ∙ e)
      | inr n ↦ inr (head_second E A B s m.0 (head_moved B t s (sym m.1) n))
    ]
  ]

  -- where the first would go on, the second is none, and the token stands behind both
  goes_past : (x : X) (y : Y) (t r : Tokens) → HeadIs G t → (Q x).whole y t r → HeadIs (GoesOnBoth F G H) r
  goes_past x y t r h k = elim ((q x).head y t r k) [
    | inl n ↦ head_second F H G r n.0 (head_moved G t r n.1 h)
    | inr n ↦ absurd (head_apart G B t apart h n)
  ]

  goes_on : (r : Tokens) → HeadIs H r → HeadIs (GoesOnBoth F G H) r
  goes_on r h = head_first F H G r h

  both_single : (y z : Y) (s r w : Tokens) → (P >>= Q).whole y s r → (P >>= Q).whole z s w
      → ((y ≡ z) × (r ≡ w)) ⊎ (HeadIs (GoesOnBoth F G H) r ⊎ HeadIs (GoesOnBoth F G H) w)
  both_single y z s r w (x, t, h, k) (u, v, m, n) = elim (p.single x u s t v h m) [
    | inr o ↦ inr (elim o [ inl a ↦ inl (goes_past x y t r a k) | inr a ↦ inr (goes_past u z v w a n) ])
    | inl o ↦ elim ((q u).single y z v r w (subst (λ a. (Q a).whole y v r) o.0 (subst (λ a. (Q x).whole y a r) o.1 k)) n) [
      | inl a ↦ inl a
      | inr a ↦ inr (elim a [ inl b ↦ inl (goes_on r b) | inr b ↦ inr (goes_on w b) ])
    ]
  ]

  nothing_behind : (x : X) (y : Y) (r : Tokens) → (Q x).whole y [] r → r ≡ []
  nothing_behind x y r k = let b = (q x).takes y [] r k in no_front b.taken r b.cut

  both_cut : (y : Y) (s r : Tokens) → (P >>= Q).whole y s r → (P >>= Q).begun s → (r ≡ []) ⊎ HeadIs (GoesOnBoth F G H) r
  both_cut y s r (x, t, h, k) (inl m) = elim (p.cut x s t h m) [
    | inl e ↦ inl (nothing_behind x y r (subst (λ a. (Q x).whole y a r) e k))
    | inr a ↦ inr (goes_past x y t r a k)
  ]
  both_cut y s r (x, t, h, k) (inr (u, v, m, n)) = elim (p.single x u s t v h m) [
    | inr o ↦ elim o [
      | inl a ↦ inr (goes_past x y t r a k)
      | inr a ↦ elim ((q u).head_cut v n) [
        | inl e ↦ absurd (head_moved G v [] e a)
        | inr b ↦ absurd (head_apart G B v apart a b)
      ]
    ]
    | inl o ↦ elim ((q u).cut y v r (subst (λ a. (Q a).whole y v r) o.0 (subst (λ a. (Q x).whole y a r) o.1 k)) n) [
      | inl e ↦ inl e
      | inr b ↦ inr (goes_on r b)
    ]
  ]

  -- before a token, the first is cut, or the second is begun behind it
  begun_before : (x : X) (a : Tokens) (t : Spaced) (b v : Tokens) → P.whole x (a ++ t ∷ b) v
      → ((d : Tokens) → v ≡ d ++ t ∷ b → (Q x).begun d) → (P >>= Q).begun a
  begun_before x a t b v h behind =
      let m = p.takes x (a ++ t ∷ b) v h in
      elim (cuts a t b m.taken v m.cut) [
        | beyond d e f ↦ inl (p.prefix x a t d (subst (λ w. P.whole x w []) (append-nil m.taken ∙ e) (m.spells [])))
        | within d e f ↦ inr (x, d, subst (λ w. P.whole x w d) (sym e) (m.spells d), behind d f)
      ]

  both_prefix : (y : Y) (a : Tokens) (t : Spaced) (b : Tokens) → (P >>= Q).whole y (a ++ t ∷ b) [] → (P >>= Q).begun a
  both_prefix y a t b (x, v, h, k) =
      begun_before x a t b v h (λ d f. (q x).prefix y d t b (subst (λ w. (Q x).whole y w []) f k))

  both_closed : (a : Tokens) (t : Spaced) (b : Tokens) → (P >>= Q).begun (a ++ t ∷ b) → (P >>= Q).begun a
  both_closed a t b (inl h) = inl (p.closed a t b h)
  both_closed a t b (inr (x, v, h, k)) = begun_before x a t b v h (λ d f. (q x).closed d t b (subst (λ w. (Q x).begun w) f k))

  pub firm_both : IsFirm (E × F) (StartsBoth E A B) (GoesOnBoth F G H) (P >>= Q)
  firm_both = record {
    empty = inl p.empty;
    takes = both_takes;
    head = both_head;
    head_cut = both_head_cut;
    single = both_single;
    cut = both_cut;
    prefix = both_prefix;
    closed = both_closed;
  }
