-- Any number of one production, read one after the other.
use Rattle.std.proofs.Common.{◌≡◌, ◌⊎◌, inl, inr, List, [], ◌∷◌, ◌++◌, take, drop, refl, sym, ap, subst, ◌∙◌, append_assoc, append-nil}
use Rattle.sm_idl.specs.Productions.{Spaced, Tokens, Production, EachSpells, each_behind}
use Rattle.sm_idl.specs.declared.reader.ReadStop.{ReadStop}
use Rattle.sm_idl.specs.declared.reader.ReadStop.TheVariants.{Syntax, NoMemory}
use Rattle.sm_idl.specs.steps.ReaderView.{NoToken, StopsIn}
use Rattle.sm_idl.specs.steps.Classes.{Either}
use Rattle.sm_idl.specs.steps.Firm.{Class, HeadIs, AreApart, IsFirm}
use Rattle.sm_idl.specs.steps.Reading.{IsRead, IsStuck}
use Rattle.sm_idl.proofs.TokenLists.{head_moved, head_of_whole, both_none, ends}
use Rattle.sm_idl.proofs.FirmEach.{head_left, starts}
use Rattle.sm_idl.proofs.FirmMany.{last_goes_on, cut_goes_on}
use Rattle.sm_idl.proofs.Passing.{head_longer, at_one, at_token, at_part, whole_read, read_wider, stop_wider, one_class}

-- behind some of them, one more
pub more_spelled : {X : Type 0} (P : List X → Production X) (before xs : List X) (x : X) (s a r : Tokens) → EachSpells P before xs s a
    → (P (before ++ xs)).whole x a r → EachSpells P before (xs ++ x ∷ []) s r
more_spelled P before [] x s a r e h = (
  r,
  subst (λ z. (P before).whole x z r) (sym e) (subst (λ z. (P z).whole x a r) (append-nil before) h),
  refl,
)
more_spelled P before (y ∷ ys) x s a r (t, h, k) m =
    (t, h, more_spelled P (before ++ y ∷ []) ys x t a r k (subst (λ z. (P z).whole x a r) (sym (append_assoc before (y ∷ []) ys)) m))

-- xs were read behind `before`, and more may come. Cut anywhere behind them, the tokens spell them and more, or less and a
-- token by which the row goes on
pub record IsRow {X : Type 0} (GoesOn : Class) (P : List X → Production X) (before xs : List X) (s a : Tokens) : Type 0 where
  pub taken : Tokens
  pub cut : s ≡ taken ++ a
  pub spells : (q : Tokens) → EachSpells P before xs (taken ++ q) q
  pub back : (w q : Tokens) → a ≡ w ++ q → (ys : List X) (v : Tokens) → EachSpells P before ys (taken ++ w) v
      → ((zs : List X) × (ys ≡ xs ++ zs) × EachSpells P (before ++ xs) zs w v) ⊎ HeadIs GoesOn v
  pub over : (w q : Tokens) → a ≡ w ++ q → (each_behind P before).begun (taken ++ w) → (each_behind P (before ++ xs)).begun w

module _ {X : Type 0} (A G : Class) (P : List X → Production X) (p : (before : List X)
    → IsFirm ⊥ A G (P before)) (apart : AreApart G A) where
  pub row_none : (before : List X) (s : Tokens) → IsRow (Either A G) P before [] s s
  row_none before s = record {
    taken = [];
    cut = refl;
    spells = λ q. refl;
    back = λ w q e ys v h. inl (ys, refl, subst (λ b. EachSpells P b ys w v) (sym (append-nil before)) h);
    over = λ w q e h. subst (λ b. (each_behind P b).begun w) (sym (append-nil before)) h;
  }

  behind_one : (b : List X) (x : X) (a r : Tokens) (m : IsRead G (P b) x a r) (w q : Tokens) → r ≡ w ++ q → (zs : List X) (v : Tokens)
      → EachSpells P b zs (m.taken ++ w) v
      → ((ys : List X) × (zs ≡ x ∷ ys) × EachSpells P (b ++ x ∷ []) ys w v) ⊎ HeadIs (Either A G) v
  behind_one b x a r m w q e [] v h =
      inr (head_left A G v (head_moved A (m.taken ++ w) v h (starts A G (P b) (p b) x (m.taken ++ w) w (m.spells w))))
  behind_one b x a r m w q e (z ∷ ys) v (t, h, k) = elim (m.one w q e z t h) [
    | inl f ↦ inl (
      ys,
      ap (λ n. n ∷ ys) f.0,
      subst (λ l. EachSpells P (b ++ x ∷ []) ys l v) f.1 (subst (λ n. EachSpells P (b ++ n ∷ []) ys t v) f.0 k),
    )
    | inr g ↦ inr (last_goes_on A G P p apart (b ++ z ∷ []) ys t v g k)
  ]

  begun_behind : (b : List X) (x : X) (a r : Tokens) (m : IsRead G (P b) x a r) (w q : Tokens) → r ≡ w ++ q
      → (each_behind P b).begun (m.taken ++ w) → (each_behind P (b ++ x ∷ [])).begun w
  begun_behind b x a r m w q e ([], t, h, inl f) = ([], w, refl, inl (both_none m.taken w (h ∙ f)).1)
  begun_behind b x a r m w q e ([], t, h, inr k) = (
    [],
    w,
    refl,
    inl (m.over w q e (subst (λ l. (P l).begun (m.taken ++ w)) (append-nil b) (subst (λ l. (P (b ++ [])).begun l) (sym h) k))),
  )
  begun_behind b x a r m w q e (z ∷ ys, t, (u, h, k), c) = elim (m.one w q e z u h) [
    | inl f ↦ (
      ys,
      t,
      subst (λ l. EachSpells P (b ++ x ∷ []) ys l t) f.1 (subst (λ n. EachSpells P (b ++ n ∷ []) ys u t) f.0 k),
      elim c [
        | inl g ↦ inl g
        | inr g ↦ inr (subst (λ n. (P ((b ++ n ∷ []) ++ ys)).begun t) f.0 (subst (λ l. (P l).begun t) (sym (append_assoc b (z ∷ []) ys)) g))
      ],
    )
    | inr g ↦ absurd (cut_goes_on A G P p apart (b ++ z ∷ []) ys u t g k
        (elim c [ inl f ↦ inl f | inr f ↦ inr (subst (λ l. (P l).begun t) (sym (append_assoc b (z ∷ []) ys)) f) ]))
  ]

  more_back : (before xs : List X) (x : X) (s a r : Tokens) (i : IsRow (Either A G) P before xs s a) (m : IsRead G (P (before ++ xs)) x a r)
      (w q : Tokens) → r ≡ w ++ q → (ys : List X) (v : Tokens) → EachSpells P before ys (i.taken ++ (m.taken ++ w)) v
      → ((zs : List X) × (ys ≡ (xs ++ x ∷ []) ++ zs) × EachSpells P (before ++ (xs ++ x ∷ [])) zs w v) ⊎ HeadIs (Either A G) v
  more_back before xs x s a r i m w q e ys v h = elim (i.back (m.taken ++ w) q (at_part a m.taken r w q m.cut e) ys v h) [
    | inr g ↦ inr g
    | inl f ↦ elim (behind_one (before ++ xs) x a r m w q e f.0 v f.2) [
      | inr g ↦ inr g
      | inl k ↦ inl (
        k.0,
        f.1 ∙ ap (λ l. xs ++ l) k.1 ∙ sym (append_assoc xs (x ∷ []) k.0),
        subst (λ b. EachSpells P b k.0 w v) (append_assoc before xs (x ∷ [])) k.2,
      )
    ]
  ]

  pub row_more : (before xs : List X) (x : X) (s a r : Tokens) → IsRow (Either A G) P before xs s a → IsRead G (P (before ++ xs)) x a r
      → IsRow (Either A G) P before (xs ++ x ∷ []) s r
  row_more before xs x s a r i m = record {
    taken = i.taken ++ m.taken;
    cut = i.cut ∙ ap (λ w. i.taken ++ w) m.cut ∙ sym (append_assoc i.taken m.taken r);
    spells = λ q. subst (λ z. EachSpells P before (xs ++ x ∷ []) z q) (sym (append_assoc i.taken m.taken q))
        (more_spelled P before xs x (i.taken ++ (m.taken ++ q)) (m.taken ++ q) q (i.spells (m.taken ++ q)) (m.spells q));
    back = λ w q e ys v h. more_back before xs x s a r i m w q e ys v
        (subst (λ z. EachSpells P before ys z v) (append_assoc i.taken m.taken w) h);
    over = λ w q e h. subst (λ b. (each_behind P b).begun w) (append_assoc before xs (x ∷ []))
        (begun_behind (before ++ xs) x a r m w q e (i.over (m.taken ++ w) q (at_part a m.taken r w q m.cut e)
        (subst (λ z. (each_behind P before).begun z) (append_assoc i.taken m.taken w) h)));
  }

  no_one : (b zs : List X) (a w q v : Tokens) → (HeadIs A a → ⊥) → a ≡ w ++ q → EachSpells P b zs w v → (zs ≡ []) × (w ≡ v)
  no_one b [] a w q v none e h = (refl, h)
  no_one b (z ∷ zs) a w q v none e (t, h, k) = absurd (none (head_longer A w q a e (starts A G (P b) (p b) z w t h)))

  no_begun : (b zs : List X) (a w q v : Tokens) → (HeadIs A a → ⊥) → a ≡ w ++ q → EachSpells P b zs w v
      → (v ≡ []) ⊎ (P (b ++ zs)).begun v → w ≡ []
  no_begun b [] a w q v none e h (inl f) = h ∙ f
  no_begun b [] a w q v none e h (inr k) = elim ((p (b ++ [])).head_cut v k) [
    | inl f ↦ h ∙ f
    | inr g ↦ absurd (none (head_longer A w q a e (head_moved A v w (sym h) g)))
  ]
  no_begun b (z ∷ zs) a w q v none e (t, h, k) c = absurd (none (head_longer A w q a e (starts A G (P b) (p b) z w t h)))

  -- no more of them stand here
  pub row_read : (before xs : List X) (s a : Tokens) → IsRow (Either A G) P before xs s a → (HeadIs A a → ⊥)
      → IsRead (Either A G) (each_behind P before) xs s a
  row_read before xs s a i none = record {
    taken = i.taken;
    cut = i.cut;
    spells = i.spells;
    one = λ w q e ys v h. elim (i.back w q e ys v h) [
      | inr g ↦ inr g
      | inl f ↦ (let n = no_one (before ++ xs) f.0 a w q v none e f.2 in
          inl (f.1 ∙ ap (λ l. xs ++ l) n.0 ∙ append-nil xs, sym n.1))
    ];
    over = λ w q e h. let f = i.over w q e h in no_begun (before ++ xs) f.0 a w q f.1 none e f.2 f.3;
  }

  -- one more has begun, and stops
  stuck_wholes : (b zs : List X) (a r u : Tokens) (k : IsStuck G (P b) a r) → HeadIs A a → EachSpells P b zs (k.before ++ take 1 r) u
      → HeadIs (Either A G) u
  stuck_wholes b [] a r u k here h =
      head_left A G u (head_moved A (k.before ++ take 1 r) u h (head_of_whole A k.before r (head_moved A a (k.before ++ r) k.cut here)))
  stuck_wholes b (z ∷ zs) a r u k here (t, h, l) = last_goes_on A G P p apart (b ++ z ∷ []) zs t u (k.wholes z t h) l

  stuck_begun : (b zs : List X) (a r : Tokens) (k : IsStuck G (P b) a r) (t : Spaced) (q : Tokens) → r ≡ t ∷ q → (v : Tokens)
      → EachSpells P b zs (k.before ++ t ∷ []) v → (v ≡ []) ⊎ (P (b ++ zs)).begun v → ⊥
  stuck_begun b [] a r k t q e v h (inl f) = ends k.before t [] (h ∙ f)
  stuck_begun b [] a r k t q e v h (inr g) =
      k.stops t q e (subst (λ l. (P l).begun (k.before ++ t ∷ [])) (append-nil b) (subst (λ l. (P (b ++ [])).begun l) (sym h) g))
  stuck_begun b (z ∷ zs) a r k t q e v (u, h, l) c =
      cut_goes_on A G P p apart (b ++ z ∷ []) zs u v
      (k.wholes z u (subst (λ l. (P b).whole z (k.before ++ take 1 l) u) (sym e) h)) l
      (elim c [ inl f ↦ inl f | inr f ↦ inr (subst (λ l. (P l).begun v) (sym (append_assoc b (z ∷ []) zs)) f) ])

  pub row_stop : (before xs : List X) (s a r : Tokens) (stop : ReadStop) → IsRow (Either A G) P before xs s a → HeadIs A a
      → StopsIn G (P (before ++ xs)) a r stop → StopsIn (Either A G) (each_behind P before) s r stop
  row_stop before xs s a r NoMemory i here k = tt
  row_stop before xs s a r Syntax i here k = record {
    before = i.taken ++ k.before;
    cut = i.cut ∙ ap (λ w. i.taken ++ w) k.cut ∙ sym (append_assoc i.taken k.before r);
    begun = (xs, k.before, i.spells k.before, inr k.begun);
    wholes = λ ys u h. elim (i.back (k.before ++ take 1 r) (drop 1 r) (at_one a k.before r k.cut) ys u
        (subst (λ z. EachSpells P before ys z u) (append_assoc i.taken k.before (take 1 r)) h)) [
          | inr g ↦ g
          | inl f ↦ stuck_wholes (before ++ xs) f.0 a r u k here f.2
        ];
    stops = λ t q e h. let f = i.over (k.before ++ t ∷ []) q (at_token a k.before r t q k.cut e)
        (subst (λ z. (each_behind P before).begun z) (append_assoc i.taken k.before (t ∷ [])) h) in
        stuck_begun (before ++ xs) f.0 a r k t q e f.1 f.2 f.3;
  }

-- the same of such as end by themselves
module _ {X : Type 0} (A : Class) (P : List X → Production X) (p : (before : List X) → IsFirm ⊥ A NoToken (P before)) where
  pub ended_more : (before xs : List X) (x : X) (s a r : Tokens) → IsRow (Either A NoToken) P before xs s a
      → (P (before ++ xs)).whole x a r → IsRow (Either A NoToken) P before (xs ++ x ∷ []) s r
  ended_more before xs x s a r i h =
      row_more A NoToken P p (λ t n a. n) before xs x s a r i (whole_read (P (before ++ xs)) (p (before ++ xs)) x a r h)

  pub ended_read : (before xs : List X) (s a : Tokens) → IsRow (Either A NoToken) P before xs s a → (HeadIs A a → ⊥)
      → IsRead A (each_behind P before) xs s a
  ended_read before xs s a i none =
      read_wider (each_behind P before) xs s a (one_class A) (row_read A NoToken P p (λ t n a. n) before xs s a i none)

  pub ended_stop : (before xs : List X) (s a r : Tokens) (stop : ReadStop) → IsRow (Either A NoToken) P before xs s a → HeadIs A a
      → StopsIn NoToken (P (before ++ xs)) a r stop → StopsIn A (each_behind P before) s r stop
  ended_stop before xs s a r stop i here k =
      stop_wider (each_behind P before) s r stop (one_class A) (row_stop A NoToken P p (λ t n a. n) before xs s a r stop i here k)
