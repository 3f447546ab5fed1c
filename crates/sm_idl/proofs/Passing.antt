-- What was read of a part, and where a part stops, carried to what the part stands in: one behind the other.
use Rattle.std.proofs.Common.{◌≡◌, ◌⊎◌, inl, inr, [], ◌∷◌, ◌++◌, take, drop, refl, sym, ap, subst, ◌∙◌, append_assoc}
use Rattle.std.proofs.Common.{◌<◌, length, length-append, arith}
use Rattle.std.proofs.lemmas.List.{take-append-drop}
use Rattle.sm_idl.specs.Productions.{Spaced, Tokens, Production, gives, ◌>>=◌}
use Rattle.sm_idl.specs.declared.reader.ReadStop.{ReadStop}
use Rattle.sm_idl.specs.declared.reader.ReadStop.TheVariants.{Syntax, NoMemory}
use Rattle.sm_idl.specs.steps.ReaderView.{NoToken, StopsIn}
use Rattle.sm_idl.specs.steps.Classes.{Either}
use Rattle.sm_idl.specs.steps.Firm.{Class, HeadIs, AreApart, IsFirm}
use Rattle.sm_idl.specs.steps.Reading.{IsRead, IsStuck}
use Rattle.sm_idl.proofs.TokenLists.{head_apart, head_moved, head_wider, both_none, ends}
use Rattle.sm_idl.proofs.FirmParts.{firm_gives}
use Rattle.sm_idl.proofs.FirmEach.{head_right}

pub nothing : (s : Tokens) → HeadIs NoToken s → ⊥
nothing [] n = n
nothing (t ∷ s) n = n

-- the head of what begins other tokens is theirs
pub head_longer : (C : Class) (w q r : Tokens) → r ≡ w ++ q → HeadIs C w → HeadIs C r
head_longer C [] q r e h = absurd h
head_longer C (t ∷ w) q r e h = head_moved C (t ∷ (w ++ q)) r (sym e) h

-- tokens behind b, cut behind the first of them, at a token or anywhere
pub at_one : (a b r : Tokens) → a ≡ b ++ r → a ≡ (b ++ take 1 r) ++ drop 1 r
at_one a b r e = e ∙ ap (λ w. b ++ w) (sym (take-append-drop 1 r)) ∙ sym (append_assoc b (take 1 r) (drop 1 r))

pub at_token : (a b r : Tokens) (t : Spaced) (q : Tokens) → a ≡ b ++ r → r ≡ t ∷ q → a ≡ (b ++ t ∷ []) ++ q
at_token a b r t q e f = e ∙ ap (λ w. b ++ w) f ∙ sym (append_assoc b (t ∷ []) q)

pub at_part : (a b r w q : Tokens) → a ≡ b ++ r → r ≡ w ++ q → a ≡ (b ++ w) ++ q
at_part a b r w q e f = e ∙ ap (λ v. b ++ v) f ∙ sym (append_assoc b w q)

pub read_whole : {X : Type 0} {G : Class} (P : Production X) (x : X) (s r : Tokens) → IsRead G P x s r → P.whole x s r
read_whole P x s r h = subst (λ z. P.whole x z r) (sym h.cut) (h.spells r)

-- where no token stands by which it goes on, what is spelled is read
pub ended : {X : Type 0} {E : Type 0} {A G : Class} (P : Production X) → IsFirm E A G P → (x : X) (s r : Tokens) → (HeadIs G r → ⊥)
    → P.whole x s r → IsRead G P x s r
ended {G = G} P p x s r none h =
    let t = p.takes x s r h in
    record {
      taken = t.taken;
      cut = t.cut;
      spells = t.spells;
      one = λ w q e y v k. one_of w q e y v (p.single y x (t.taken ++ w) v w k (t.spells w));
      over = λ w q e k. elim (p.cut x (t.taken ++ w) w (t.spells w) k) [
        | inl m ↦ m
        | inr g ↦ absurd (none (head_longer G w q r e g))
      ];
    }
  where
    one_of : (w q : Tokens) → r ≡ w ++ q → (y : _) (v : Tokens) → ((y ≡ x) × (v ≡ w)) ⊎ (HeadIs G v ⊎ HeadIs G w)
        → ((y ≡ x) × (v ≡ w)) ⊎ HeadIs G v
    one_of w q e y v (inl m) = inl m
    one_of w q e y v (inr (inl g)) = inr g
    one_of w q e y v (inr (inr g)) = absurd (none (head_longer G w q r e g))

pub whole_read : {X : Type 0} {E : Type 0} {A : Class} (P : Production X) → IsFirm E A NoToken P → (x : X) (s r : Tokens) → P.whole x s r
    → IsRead NoToken P x s r
whole_read P p x s r h = ended P p x s r (nothing r) h

-- by wider classes
pub read_wider : {X : Type 0} {G H : Class} (P : Production X) (x : X) (s r : Tokens) → ((t : Spaced) → G t → H t) → IsRead G P x s r
    → IsRead H P x s r
read_wider {G = G} {H = H} P x s r wider k = record {
  taken = k.taken;
  cut = k.cut;
  spells = k.spells;
  one = λ w q e y v h. elim (k.one w q e y v h) [ inl m ↦ inl m | inr g ↦ inr (head_wider G H v wider g) ];
  over = k.over;
}

stuck_wider : {X : Type 0} {G H : Class} (P : Production X) (s r : Tokens) → ((t : Spaced) → G t → H t) → IsStuck G P s r → IsStuck H P s r
stuck_wider {G = G} {H = H} P s r wider k = record {
  before = k.before;
  cut = k.cut;
  begun = k.begun;
  wholes = λ x u h. head_wider G H u wider (k.wholes x u h);
  stops = k.stops;
}

pub stop_wider : {X : Type 0} {G H : Class} (P : Production X) (s r : Tokens) (stop : ReadStop) → ((t : Spaced) → G t → H t)
    → StopsIn G P s r stop → StopsIn H P s r stop
stop_wider P s r Syntax wider k = stuck_wider P s r wider k
stop_wider P s r NoMemory wider k = tt

-- a class beside none
pub one_class : (A : Class) (t : Spaced) → Either A NoToken t → A t
one_class A t (inl a) = a
one_class A t (inr n) = absurd n

-- P, which goes on by tokens of G, and Q behind it. Where P would go on, Q is none and K's token stands behind both
pub record Follows {X Y : Type 0} (G H K : Class) (Q : X → Production Y) : Type 0 where
  pub past : (x : X) (y : Y) (v u : Tokens) → HeadIs G v → (Q x).whole y v u → HeadIs K u
  pub unbegun : (x : X) (v : Tokens) → HeadIs G v → (Q x).begun v → ⊥
  pub wider : (t : Spaced) → H t → K t

module _ {X Y : Type 0} (G H K : Class) (P : Production X) (Q : X → Production Y) (f : Follows G H K Q) where
  first_stuck : (s r : Tokens) → IsStuck G P s r → IsStuck K (P >>= Q) s r
  first_stuck s r k = record {
    before = k.before;
    cut = k.cut;
    begun = inl k.begun;
    wholes = λ y u h. f.past h.0 y h.1 u (k.wholes h.0 h.1 h.2) h.3;
    stops = λ t q e h. elim h [ inl b ↦ k.stops t q e b | inr b ↦ nothing_behind t q e b ];
  }
    where
      nothing_behind : (t : Spaced) (q : Tokens) → r ≡ t ∷ q → ((x : X) × (v : Tokens) × P.whole x (k.before ++ t ∷ []) v
          × (Q x).begun v) → ⊥
      nothing_behind t q e (x, v, h, b) =
          f.unbegun x v (k.wholes x v (subst (λ z. P.whole x (k.before ++ take 1 z) v) (sym e) h)) b

  behind : (x : X) (s a r : Tokens) (m : IsRead G P x s a) (k : IsStuck H (Q x) a r) (y : Y) (u : Tokens)
      → (P >>= Q).whole y (m.taken ++ (k.before ++ take 1 r)) u → HeadIs K u
  behind x s a r m k y u (z, v, h, i) = elim (m.one (k.before ++ take 1 r) (drop 1 r) (at_one a k.before r k.cut) z v h) [
    | inl e ↦ head_wider H K u f.wider (k.wholes y u (subst (λ w. (Q x).whole y w u) e.1 (subst (λ w. (Q w).whole y v u) e.0 i)))
    | inr g ↦ f.past z y v u g i
  ]

  no_more : (x : X) (s a r : Tokens) (m : IsRead G P x s a) (k : IsStuck H (Q x) a r) (t : Spaced) (q : Tokens) → r ≡ t ∷ q
      → (P >>= Q).begun (m.taken ++ (k.before ++ t ∷ [])) → ⊥
  no_more x s a r m k t q e (inl b) = ends k.before t [] (m.over (k.before ++ t ∷ []) q (at_token a k.before r t q k.cut e) b)
  no_more x s a r m k t q e (inr (z, v, h, b)) = elim (m.one (k.before ++ t ∷ []) q (at_token a k.before r t q k.cut e) z v h) [
    | inl g ↦ k.stops t q e (subst (λ w. (Q x).begun w) g.1 (subst (λ w. (Q w).begun v) g.0 b))
    | inr g ↦ f.unbegun z v g b
  ]

  second_stuck : (x : X) (s a r : Tokens) → IsRead G P x s a → IsStuck H (Q x) a r → IsStuck K (P >>= Q) s r
  second_stuck x s a r m k = record {
    before = m.taken ++ k.before;
    cut = m.cut ∙ ap (λ w. m.taken ++ w) k.cut ∙ sym (append_assoc m.taken k.before r);
    begun = inr (x, k.before, m.spells k.before, k.begun);
    wholes = λ y u h. behind x s a r m k y u (subst (λ z. (P >>= Q).whole y z u) (append_assoc m.taken k.before (take 1 r)) h);
    stops = λ t q e h. no_more x s a r m k t q e (subst (λ z. (P >>= Q).begun z) (append_assoc m.taken k.before (t ∷ [])) h);
  }

  both_one : (x : X) (y : Y) (s a r : Tokens) (m : IsRead G P x s a) (k : IsRead H (Q x) y a r) (w q : Tokens) → r ≡ w ++ q → (z : Y)
      (u : Tokens) → (P >>= Q).whole z (m.taken ++ (k.taken ++ w)) u → ((z ≡ y) × (u ≡ w)) ⊎ HeadIs K u
  both_one x y s a r m k w q e z u (n, v, h, i) = elim (m.one (k.taken ++ w) q (at_part a k.taken r w q k.cut e) n v h) [
    | inr g ↦ inr (f.past n z v u g i)
    | inl g ↦ elim (k.one w q e z u (subst (λ l. (Q x).whole z l u) g.1 (subst (λ l. (Q l).whole z v u) g.0 i))) [
      | inl o ↦ inl o
      | inr o ↦ inr (head_wider H K u f.wider o)
    ]
  ]

  both_over : (x : X) (y : Y) (s a r : Tokens) (m : IsRead G P x s a) (k : IsRead H (Q x) y a r) (w q : Tokens) → r ≡ w ++ q
      → (P >>= Q).begun (m.taken ++ (k.taken ++ w)) → w ≡ []
  both_over x y s a r m k w q e (inl b) =
      (both_none k.taken w (m.over (k.taken ++ w) q (at_part a k.taken r w q k.cut e) b)).1
  both_over x y s a r m k w q e (inr (n, v, h, b)) = elim (m.one (k.taken ++ w) q (at_part a k.taken r w q k.cut e) n v h) [
    | inl g ↦ k.over w q e (subst (λ l. (Q x).begun l) g.1 (subst (λ l. (Q l).begun v) g.0 b))
    | inr g ↦ absurd (f.unbegun n v g b)
  ]

  pub both_read : (x : X) (y : Y) (s a r : Tokens) → IsRead G P x s a → IsRead H (Q x) y a r → IsRead K (P >>= Q) y s r
  both_read x y s a r m k = record {
    taken = m.taken ++ k.taken;
    cut = m.cut ∙ ap (λ w. m.taken ++ w) k.cut ∙ sym (append_assoc m.taken k.taken r);
    spells = λ w. (
      x,
      k.taken ++ w,
      subst (λ z. P.whole x z (k.taken ++ w)) (sym (append_assoc m.taken k.taken w)) (m.spells (k.taken ++ w)),
      k.spells w,
    );
    one = λ w q e z u h. both_one x y s a r m k w q e z u (subst (λ l. (P >>= Q).whole z l u) (append_assoc m.taken k.taken w) h);
    over = λ w q e h. both_over x y s a r m k w q e (subst (λ l. (P >>= Q).begun l) (append_assoc m.taken k.taken w) h);
  }

  pub first_stop : (s r : Tokens) (stop : ReadStop) → StopsIn G P s r stop → StopsIn K (P >>= Q) s r stop
  first_stop s r Syntax k = first_stuck s r k
  first_stop s r NoMemory k = tt

  pub second_stop : (x : X) (s a r : Tokens) (stop : ReadStop) → IsRead G P x s a → StopsIn H (Q x) a r stop → StopsIn K (P >>= Q) s r stop
  second_stop x s a r Syntax m k = second_stuck x s a r m k
  second_stop x s a r NoMemory m k = tt

-- behind what ends by itself
pub follows_end : {X Y : Type 0} {H : Class} (Q : X → Production Y) → Follows NoToken H H Q
follows_end Q = record {
  past = λ x y v u n k. absurd (nothing v n);
  unbegun = λ x v n k. nothing v n;
  wider = λ t h. h;
}

-- what takes tokens that are none of those
pub follows_row : {X Y : Type 0} {G B H : Class} (Q : X → Production Y) → ((x : X) → IsFirm ⊥ B H (Q x)) → AreApart G B → Follows G H H Q
follows_row {G = G} {B = B} Q q apart = record {
  past = λ x y v u g k. elim ((q x).head y v u k) [ inl n ↦ absurd n.0 | inr b ↦ absurd (head_apart G B v apart g b) ];
  unbegun = λ x v g k. elim ((q x).head_cut v k) [ inl e ↦ head_moved G v [] e g | inr b ↦ head_apart G B v apart g b ];
  wider = λ t h. h;
}

-- what may be none
pub follows_loose : {X Y : Type 0} {G B H : Class} (Q : X → Production Y) → ((x : X) → IsFirm (Unit {0}) B H (Q x)) → AreApart G B
    → Follows G H (Either H G) Q
follows_loose {G = G} {B = B} {H = H} Q q apart = record {
  past = λ x y v u g k. elim ((q x).head y v u k) [
    | inl n ↦ head_right H G u (head_moved G v u n.1 g)
    | inr b ↦ absurd (head_apart G B v apart g b)
  ];
  unbegun = λ x v g k. elim ((q x).head_cut v k) [ inl e ↦ head_moved G v [] e g | inr b ↦ head_apart G B v apart g b ];
  wider = λ t h. inl h;
}

-- a value that is made of what was read
pub follows_value : {X Y : Type 0} {G : Class} (made : X → Y) → Follows G NoToken G (λ x. gives (made x))
follows_value {G = G} made = record {
  past = λ x y v u g k. head_moved G v u k.1 g;
  unbegun = λ x v g k. head_moved G v [] k g;
  wider = λ t n. absurd n;
}

-- the short forms: behind what ends by itself, and behind what goes on by tokens that don't begin the rest

pub stops_first : {X Y : Type 0} (H : Class) (P : Production X) (Q : X → Production Y) (s r : Tokens) (stop : ReadStop)
    → StopsIn NoToken P s r stop → StopsIn H (P >>= Q) s r stop
stops_first H P Q s r stop k = first_stop NoToken H H P Q (follows_end Q) s r stop k

pub stops_behind : {X Y : Type 0} {E : Type 0} {A : Class} (H : Class) (P : Production X) (Q : X → Production Y) → IsFirm E A NoToken P
    → (x : X) (s a r : Tokens) (stop : ReadStop) → P.whole x s a → StopsIn H (Q x) a r stop → StopsIn H (P >>= Q) s r stop
stops_behind H P Q p x s a r stop h k =
    second_stop NoToken H H P Q (follows_end Q) x s a r stop (whole_read P p x s a h) k

pub stops_in_row : {X Y : Type 0} {G B H : Class} (P : Production X) (Q : X → Production Y) → ((x : X) → IsFirm ⊥ B H (Q x))
    → AreApart G B → (s r : Tokens) (stop : ReadStop) → StopsIn G P s r stop → StopsIn H (P >>= Q) s r stop
stops_in_row {G = G} {H = H} P Q q apart s r stop k = first_stop G H H P Q (follows_row Q q apart) s r stop k

pub stops_past_row : {X Y : Type 0} {G B H : Class} (P : Production X) (Q : X → Production Y) → ((x : X) → IsFirm ⊥ B H (Q x))
    → AreApart G B → (x : X) (s a r : Tokens) (stop : ReadStop) → IsRead G P x s a → StopsIn H (Q x) a r stop
    → StopsIn H (P >>= Q) s r stop
stops_past_row {G = G} {H = H} P Q q apart x s a r stop m k = second_stop G H H P Q (follows_row Q q apart) x s a r stop m k

-- what takes tokens leaves fewer
pub shorter : {X : Type 0} {A G : Class} (P : Production X) → IsFirm ⊥ A G P → (x : X) (s r : Tokens) → P.whole x s r
    → length r < length s
shorter {A = A} P p x s r h = let t = p.takes x s r h in fewer t.taken r s t.cut t.some
  where
    fewer : (a r s : Tokens) → s ≡ a ++ r → (a ≡ [] → ⊥) → length r < length s
    fewer [] r s e n = absurd (n refl)
    fewer (t ∷ a) r s e n = omega (arith, ap length e, length-append (t ∷ a) r)

-- and where all of it was read
pub behind_read : {X Y : Type 0} {E : Type 0} {A H : Class} (P : Production X) (Q : X → Production Y) → IsFirm E A NoToken P
    → (x : X) (y : Y) (s a r : Tokens) → P.whole x s a → IsRead H (Q x) y a r → IsRead H (P >>= Q) y s r
behind_read {H = H} P Q p x y s a r h k = both_read NoToken H H P Q (follows_end Q) x y s a r (whole_read P p x s a h) k

pub past_read : {X Y : Type 0} {G B H : Class} (P : Production X) (Q : X → Production Y) → ((x : X) → IsFirm ⊥ B H (Q x))
    → AreApart G B → (x : X) (y : Y) (s a r : Tokens) → IsRead G P x s a → IsRead H (Q x) y a r → IsRead H (P >>= Q) y s r
past_read {G = G} {H = H} P Q q apart x y s a r m k = both_read G H H P Q (follows_row Q q apart) x y s a r m k

-- what is made of what was read
pub value_read : {X Y : Type 0} {G : Class} (P : Production X) (made : X → Y) (x : X) (s r : Tokens) → IsRead G P x s r
    → IsRead G (P >>= (λ v. gives (made v))) (made x) s r
value_read {G = G} P made x s r m =
    both_read G NoToken G P (λ v. gives (made v)) (follows_value made) x (made x) s r r m
    (whole_read (gives (made x)) (firm_gives (made x)) (made x) r r (refl, refl))

pub value_stop : {X Y : Type 0} (G : Class) (P : Production X) (made : X → Y) (s r : Tokens) (stop : ReadStop) → StopsIn G P s r stop
    → StopsIn G (P >>= (λ v. gives (made v))) s r stop
value_stop G P made s r stop k = first_stop G NoToken G P (λ v. gives (made v)) (follows_value made) s r stop k
