-- Any number of one production, each read from the front, is read from the front: none must go on with a token that begins one.
use Rattle.std.proofs.Common.{◌≡◌, ◌⊎◌, inl, inr, List, [], ◌∷◌, ◌++◌, refl, sym, ap, subst, ◌∙◌, append_assoc, append-nil}
use Rattle.sm_idl.specs.Productions.{Spaced, Tokens, Production, EachSpells, each_behind}
use Rattle.sm_idl.specs.steps.Classes.{Either}
use Rattle.sm_idl.specs.steps.Firm.{Class, HeadIs, AreApart, Takes, IsFirm}
use Rattle.sm_idl.proofs.TokenLists.{head_apart, head_moved, no_front, ends, beyond, within, cuts}
use Rattle.sm_idl.proofs.FirmEach.{head_left, head_right, starts}

module _ {X : Type 0} (A G : Class) (P : List X → Production X) (p : (before : List X)
    → IsFirm ⊥ A G (P before)) (apart : AreApart G A) where
  many_takes : (before xs : List X) (s r : Tokens) → EachSpells P before xs s r → Takes (Unit {0}) (each_behind P before) xs s r
  many_takes before [] s r e = record { taken = []; cut = e; some = λ _. tt; spells = λ w. refl }
  many_takes before (x ∷ xs) s r (t, h, k) =
      let a = (p before).takes x s t h in
      let b = many_takes (before ++ x ∷ []) xs t r k in
      record {
        taken = a.taken ++ b.taken;
        cut = a.cut ∙ ap (λ w. a.taken ++ w) b.cut ∙ sym (append_assoc a.taken b.taken r);
        some = λ _. tt;
        spells = λ w. (
          b.taken ++ w,
          subst (λ z. (P before).whole x z (b.taken ++ w)) (sym (append_assoc a.taken b.taken w))
              (a.spells (b.taken ++ w)),
          b.spells w,
        );
      }

  many_head : (before xs : List X) (s r : Tokens) → EachSpells P before xs s r → (Unit {0} × (s ≡ r)) ⊎ HeadIs A s
  many_head before [] s r e = inl (tt, e)
  many_head before (x ∷ xs) s r (t, h, k) = inr (starts A G (P before) (p before) x s t h)

  many_head_cut : (before : List X) (s : Tokens) → (each_behind P before).begun s → (s ≡ []) ⊎ HeadIs A s
  many_head_cut before s ([], t, e, inl f) = inl (e ∙ f)
  many_head_cut before s ([], t, e, inr h) = elim ((p (before ++ [])).head_cut t h) [
    | inl f ↦ inl (e ∙ f)
    | inr a ↦ inr (head_moved A t s (sym e) a)
  ]
  many_head_cut before s (x ∷ xs, t, (u, h, k), m) = inr (starts A G (P before) (p before) x s u h)

  -- where one would go on, it is the last, and the token stands behind all
  pub last_goes_on : (before xs : List X) (t r : Tokens) → HeadIs G t → EachSpells P before xs t r → HeadIs (Either A G) r
  last_goes_on before [] t r g e = head_right A G r (head_moved G t r e g)
  last_goes_on before (x ∷ xs) t r g (u, h, k) = absurd (head_apart G A t apart g (starts A G (P before) (p before) x t u h))

  many_single : (before xs ys : List X) (s r w : Tokens) → EachSpells P before xs s r → EachSpells P before ys s w
      → ((xs ≡ ys) × (r ≡ w)) ⊎ (HeadIs (Either A G) r ⊎ HeadIs (Either A G) w)
  many_single before [] [] s r w e f = inl (refl, sym e ∙ f)
  many_single before [] (y ∷ ys) s r w e (u, k, m) =
      inr (inl (head_left A G r (head_moved A s r e (starts A G (P before) (p before) y s u k))))
  many_single before (x ∷ xs) [] s r w (u, k, m) f =
      inr (inr (head_left A G w (head_moved A s w f (starts A G (P before) (p before) x s u k))))
  many_single before (x ∷ xs) (y ∷ ys) s r w (t, h, k) (u, m, n) = elim ((p before).single x y s t u h m) [
    | inr a ↦ inr (elim a [
      | inl b ↦ inl (last_goes_on (before ++ x ∷ []) xs t r b k)
      | inr b ↦ inr (last_goes_on (before ++ y ∷ []) ys u w b n)
    ])
    | inl e ↦ elim (many_single (before ++ y ∷ []) xs ys u r w
        (subst (λ a. EachSpells P (before ++ a ∷ []) xs u r) e.0 (subst (λ a. EachSpells P (before ++ x ∷ []) xs a r) e.1 k)) n) [
          | inl o ↦ inl (ap (λ zs. x ∷ zs) o.0 ∙ ap (λ z. z ∷ ys) e.0, o.1)
          | inr o ↦ inr o
        ]
  ]

  none_spelled : (before xs : List X) (r : Tokens) → EachSpells P before xs [] r → r ≡ []
  none_spelled before xs r k = let b = many_takes before xs [] r k in no_front b.taken r b.cut

  -- nor is one begun there
  pub cut_goes_on : (b zs : List X) (q t : Tokens) → HeadIs G q → EachSpells P b zs q t → (t ≡ []) ⊎ (P (b ++ zs)).begun t → ⊥
  cut_goes_on b [] q t g e (inl f) = head_moved G q [] (e ∙ f) g
  cut_goes_on b [] q t g e (inr d) = elim ((p (b ++ [])).head_cut t d) [
    | inl f ↦ head_moved G q [] (e ∙ f) g
    | inr a ↦ head_apart G A q apart g (head_moved A t q (sym e) a)
  ]
  cut_goes_on b (z ∷ zs) q t g (o, h, k) d = head_apart G A q apart g (starts A G (P b) (p b) z q o h)

  many_cut : (before xs ys : List X) (s r t : Tokens) → EachSpells P before xs s r → EachSpells P before ys s t
      → (t ≡ []) ⊎ (P (before ++ ys)).begun t → (r ≡ []) ⊎ HeadIs (Either A G) r
  many_cut before [] [] s r t e f (inl g) = inl (sym e ∙ f ∙ g)
  many_cut before [] [] s r t e f (inr h) = elim ((p (before ++ [])).head_cut t h) [
    | inl g ↦ inl (sym e ∙ f ∙ g)
    | inr a ↦ inr (head_left A G r (head_moved A t r (sym f ∙ e) a))
  ]
  many_cut before [] (y ∷ ys) s r t e (u, m, n) c =
      inr (head_left A G r (head_moved A s r e (starts A G (P before) (p before) y s u m)))
  many_cut before (x ∷ xs) [] s r t (u, h, k) f (inl g) =
      absurd (head_moved A s [] (f ∙ g) (starts A G (P before) (p before) x s u h))
  many_cut before (x ∷ xs) [] s r t (u, h, k) f (inr c) =
      elim ((p before).cut x s u h (subst (λ b. (P b).begun s) (append-nil before) (subst (λ z. (P (before ++ [])).begun z) (sym f) c))) [
        | inl e ↦ inl (none_spelled (before ++ x ∷ []) xs r (subst (λ z. EachSpells P (before ++ x ∷ []) xs z r) e k))
        | inr g ↦ inr (last_goes_on (before ++ x ∷ []) xs u r g k)
      ]
  many_cut before (x ∷ xs) (y ∷ ys) s r t (u, h, k) (v, m, n) c = elim ((p before).single x y s u v h m) [
    | inr a ↦ elim a [
      | inl b ↦ inr (last_goes_on (before ++ x ∷ []) xs u r b k)
      | inr b ↦ absurd (cut_goes_on (before ++ y ∷ []) ys v t b n
          (elim c [ inl e ↦ inl e | inr d ↦ inr (subst (λ z. (P z).begun t) (sym (append_assoc before (y ∷ []) ys)) d) ]))
    ]
    | inl e ↦ many_cut (before ++ y ∷ []) xs ys v r t
        (subst (λ a. EachSpells P (before ++ a ∷ []) xs v r) e.0 (subst (λ a. EachSpells P (before ++ x ∷ []) xs a r) e.1 k)) n
        (elim c [ inl f ↦ inl f | inr d ↦ inr (subst (λ z. (P z).begun t) (sym (append_assoc before (y ∷ []) ys)) d) ])
  ]

  many_prefix : (before xs : List X) (a : Tokens) (t : Spaced) (b : Tokens) → EachSpells P before xs (a ++ t ∷ b) []
      → (each_behind P before).begun a
  many_prefix before [] a t b e = absurd (ends a t b e)
  many_prefix before (x ∷ xs) a t b (v, h, k) =
      let m = (p before).takes x (a ++ t ∷ b) v h in
      elim (cuts a t b m.taken v m.cut) [
        | beyond d e f ↦ (
          [],
          a,
          refl,
          inr (subst (λ z. (P z).begun a) (sym (append-nil before))
              ((p before).prefix x a t d (subst (λ w. (P before).whole x w []) (append-nil m.taken ∙ e) (m.spells [])))),
        )
        | within d e f ↦ (let rest = many_prefix (before ++ x ∷ []) xs d t b (subst (λ w. EachSpells P (before ++ x ∷ []) xs w []) f k) in (
          x ∷ rest.0,
          rest.1,
          (d, subst (λ w. (P before).whole x w d) (sym e) (m.spells d), rest.2),
          elim rest.3 [ inl g ↦ inl g | inr g ↦ inr (subst (λ z. (P z).begun rest.1) (append_assoc before (x ∷ []) rest.0) g) ],
        ))
      ]

  many_closed : (before xs : List X) (a : Tokens) (t : Spaced) (b v : Tokens) → EachSpells P before xs (a ++ t ∷ b) v
      → (v ≡ []) ⊎ (P (before ++ xs)).begun v → (each_behind P before).begun a
  many_closed before [] a t b v e (inl f) = absurd (ends a t b (e ∙ f))
  many_closed before [] a t b v e (inr h) =
      ([], a, refl, inr ((p (before ++ [])).closed a t b (subst (λ z. (P (before ++ [])).begun z) (sym e) h)))
  many_closed before (x ∷ xs) a t b v (u, h, k) c =
      let m = (p before).takes x (a ++ t ∷ b) u h in
      elim (cuts a t b m.taken u m.cut) [
        | beyond d e f ↦ (
          [],
          a,
          refl,
          inr (subst (λ z. (P z).begun a) (sym (append-nil before))
              ((p before).prefix x a t d (subst (λ w. (P before).whole x w []) (append-nil m.taken ∙ e) (m.spells [])))),
        )
        | within d e f ↦ (let rest = many_closed (before ++ x ∷ []) xs d t b v (subst (λ w. EachSpells P (before ++ x ∷ []) xs w v) f k)
            (elim c [ inl g ↦ inl g | inr g ↦ inr (subst (λ z. (P z).begun v) (sym (append_assoc before (x ∷ []) xs)) g) ]) in (
              x ∷ rest.0,
              rest.1,
              (d, subst (λ w. (P before).whole x w d) (sym e) (m.spells d), rest.2),
              elim rest.3 [ inl g ↦ inl g | inr g ↦ inr (subst (λ z. (P z).begun rest.1) (append_assoc before (x ∷ []) rest.0) g) ],
            ))
      ]

  pub firm_each : (before : List X) → IsFirm (Unit {0}) A (Either A G) (each_behind P before)
  firm_each before = record {
    empty = ([], [], refl, inl refl);
    takes = many_takes before;
    head = many_head before;
    head_cut = many_head_cut before;
    single = many_single before;
    cut = λ xs s r h k. many_cut before xs k.0 s r k.1 h k.2 k.3;
    prefix = many_prefix before;
    closed = λ a t b k. many_closed before k.0 a t b k.1 k.2 k.3;
  }
