-- What was read of a part, and where a part stops, carried to what the part stands in: either of two, what may be missing, and
-- what is documented.
use Rattle.std.proofs.Common.{◌≡◌, ◌⊎◌, inl, inr, ℕ, List, [], ◌∷◌, ◌++◌, take, Option, Some, None, refl, sym, ap, subst, ◌∙◌}
use Rattle.sm_lex.specs.Tokens.{Lexeme}
use Rattle.sm_model.specs.Said.{TraitSaid}
use Rattle.sm_idl.specs.Productions.{Spaced, Tokens, Production, one, ◌or◌, maybe, OptionSpells}
use Rattle.sm_idl.specs.Traits.{DocsBefore, docs_trait, documented}
use Rattle.sm_idl.specs.declared.reader.ReadStop.{ReadStop}
use Rattle.sm_idl.specs.declared.reader.ReadStop.TheVariants.{Syntax, NoMemory}
use Rattle.sm_idl.specs.steps.ReaderView.{NoToken, StopsIn}
use Rattle.sm_idl.specs.steps.Classes.{Either}
use Rattle.sm_idl.specs.steps.Firm.{Class, HeadIs, AreApart, IsFirm}
use Rattle.sm_idl.specs.steps.Reading.{IsRead, IsStuck}
use Rattle.sm_idl.proofs.TokenLists.{no_tokens, heads, head_apart, head_moved, head_of_whole, head_of_cut, head_of_part, both_none, ends}
use Rattle.sm_idl.proofs.FirmEach.{head_left, head_right, starts}
use Rattle.sm_idl.proofs.FirmDocumented.{same_docs, docs_stay}
use Rattle.sm_idl.proofs.Passing.{head_longer}

-- a token that begins nothing
pub stuck_here : {X : Type 0} {A G : Class} (P : Production X) → IsFirm ⊥ A G P → (s : Tokens) → (HeadIs A s → ⊥) → IsStuck G P s s
stuck_here {A = A} {G = G} P p s none = record {
  before = [];
  cut = refl;
  begun = p.empty;
  wholes = λ x u h. absurd (none (head_of_part A [] s (starts A G P p x (take 1 s) u h)));
  stops = λ t q e h. elim (p.head_cut (t ∷ []) h) [
    | inl f ↦ no_tokens t [] (sym f)
    | inr a ↦ none (head_moved A (t ∷ q) s (sym e) a)
  ];
}

-- a token that says nothing here
pub token_stuck : {X : Type 0} (Is : Lexeme → X → Type 0) (t : Spaced) (s r : Tokens) → s ≡ t ∷ r → ((x : X) → Is t.token x → ⊥)
    → IsStuck NoToken (one Is) s s
token_stuck Is t s r f none = record {
  before = [];
  cut = refl;
  begun = refl;
  wholes = λ x u h. absurd (none x (subst (λ v. Is v.token x) (sym (heads t h.0 [] u (sym (ap (λ z. take 1 z) f) ∙ h.1))) h.2));
  stops = λ v q e h. no_tokens v [] (sym h);
}

-- of two, the one that the first token begins
module _ {X : Type 0} (A B G H : Class) (P Q : Production X) (p : IsFirm ⊥ A G P) (q : IsFirm ⊥ B H Q) (apart : AreApart A B) where
  not_second : (s : Tokens) → HeadIs A s → (x : X) (r : Tokens) → Q.whole x s r → ⊥
  not_second s a x r h = head_apart A B s apart a (starts B H Q q x s r h)

  second_unbegun : (s : Tokens) → HeadIs A s → Q.begun s → ⊥
  second_unbegun s a h = elim (q.head_cut s h) [ inl e ↦ head_moved A s [] e a | inr b ↦ head_apart A B s apart a b ]

  pub left_read : (x : X) (s r : Tokens) → IsRead G P x s r → IsRead G (P or Q) x s r
  left_read x s r k = record {
    taken = k.taken;
    cut = k.cut;
    spells = λ w. inl (k.spells w);
    one = λ w t e y v h. elim h [
      | inl g ↦ k.one w t e y v g
      | inr g ↦ absurd (not_second (k.taken ++ w) (starts A G P p x (k.taken ++ w) w (k.spells w)) y v g)
    ];
    over = λ w t e h. elim h [
      | inl g ↦ k.over w t e g
      | inr g ↦ absurd (second_unbegun (k.taken ++ w) (starts A G P p x (k.taken ++ w) w (k.spells w)) g)
    ];
  }

  left_stuck : (s r : Tokens) → (HeadIs B s → ⊥) → IsStuck G P s r → IsStuck G (P or Q) s r
  left_stuck s r none k = record {
    before = k.before;
    cut = k.cut;
    begun = inl k.begun;
    wholes = λ x u h. elim h [
      | inl g ↦ k.wholes x u g
      | inr g ↦ absurd (none (head_moved B (k.before ++ r) s (sym k.cut)
          (head_of_part B k.before r (starts B H Q q x (k.before ++ take 1 r) u g))))
    ];
    stops = λ t w e h. elim h [
      | inl g ↦ k.stops t w e g
      | inr g ↦ elim (q.head_cut (k.before ++ t ∷ []) g) [
        | inl f ↦ ends k.before t [] f
        | inr b ↦ none (head_moved B (k.before ++ t ∷ w) s (sym (k.cut ∙ ap (λ z. k.before ++ z) e)) (head_of_cut B k.before t w b))
      ]
    ];
  }

  pub left_stop : (s r : Tokens) (stop : ReadStop) → (HeadIs B s → ⊥) → StopsIn G P s r stop → StopsIn G (P or Q) s r stop
  left_stop s r Syntax none k = left_stuck s r none k
  left_stop s r NoMemory none k = tt

other : {A B : Type 0} → A ⊎ B → B ⊎ A
other (inl a) = inr a
other (inr b) = inl b

turned_stuck : {X : Type 0} (G : Class) (P Q : Production X) (s r : Tokens) → IsStuck G (Q or P) s r → IsStuck G (P or Q) s r
turned_stuck G P Q s r k = record {
  before = k.before;
  cut = k.cut;
  begun = other k.begun;
  wholes = λ x u h. k.wholes x u (other h);
  stops = λ t q e h. k.stops t q e (other h);
}

-- or the other one
module _ {X : Type 0} (A B G H : Class) (P Q : Production X) (p : IsFirm ⊥ A G P) (q : IsFirm ⊥ B H Q) (apart : AreApart B A) where
  pub right_read : (x : X) (s r : Tokens) → IsRead H Q x s r → IsRead H (P or Q) x s r
  right_read x s r h =
      let k = left_read B A H G Q P q p apart x s r h in
      record {
        taken = k.taken;
        cut = k.cut;
        spells = λ w. other (k.spells w);
        one = λ w t e y v g. k.one w t e y v (other g);
        over = λ w t e g. k.over w t e (other g);
      }

  pub right_stop : (s r : Tokens) (stop : ReadStop) → (HeadIs A s → ⊥) → StopsIn H Q s r stop → StopsIn H (P or Q) s r stop
  right_stop s r Syntax none k = turned_stuck H P Q s r (left_stuck B A H G Q P q p apart s r none k)
  right_stop s r NoMemory none k = tt

-- what may be missing
module _ {X : Type 0} (A G : Class) (P : Production X) (p : IsFirm ⊥ A G P) where
  none_one : (s w q : Tokens) → (HeadIs A s → ⊥) → s ≡ w ++ q → (y : Option X) (v : Tokens) → OptionSpells P y w v
      → ((y ≡ None) × (v ≡ w)) ⊎ HeadIs (Either A G) v
  none_one s w q none e None v h = inl (refl, sym h)
  none_one s w q none e (Some y) v h = absurd (none (head_longer A w q s e (starts A G P p y w v h)))

  none_over : (s w q : Tokens) → (HeadIs A s → ⊥) → s ≡ w ++ q → (maybe P).begun w → w ≡ []
  none_over s w q none e (inl f) = f
  none_over s w q none e (inr h) = elim (p.head_cut w h) [ inl f ↦ f | inr a ↦ absurd (none (head_longer A w q s e a)) ]

  pub none_read : (s : Tokens) → (HeadIs A s → ⊥) → IsRead (Either A G) (maybe P) None s s
  none_read s none = record {
    taken = [];
    cut = refl;
    spells = λ q. refl;
    one = λ w q e y v h. none_one s w q none e y v h;
    over = λ w q e h. none_over s w q none e h;
  }

  some_one : (x : X) (s r : Tokens) (k : IsRead G P x s r) (w q : Tokens) → r ≡ w ++ q → (y : Option X) (v : Tokens)
      → OptionSpells P y (k.taken ++ w) v → ((y ≡ Some x) × (v ≡ w)) ⊎ HeadIs (Either A G) v
  some_one x s r k w q e None v h =
      inr (head_left A G v (head_moved A (k.taken ++ w) v h (starts A G P p x (k.taken ++ w) w (k.spells w))))
  some_one x s r k w q e (Some y) v h = elim (k.one w q e y v h) [
    | inl f ↦ inl (ap Some f.0, f.1)
    | inr g ↦ inr (head_right A G v g)
  ]

  some_over : (x : X) (s r : Tokens) (k : IsRead G P x s r) (w q : Tokens) → r ≡ w ++ q → (maybe P).begun (k.taken ++ w) → w ≡ []
  some_over x s r k w q e (inl f) = (both_none k.taken w f).1
  some_over x s r k w q e (inr h) = k.over w q e h

  pub some_read : (x : X) (s r : Tokens) → IsRead G P x s r → IsRead (Either A G) (maybe P) (Some x) s r
  some_read x s r k = record {
    taken = k.taken;
    cut = k.cut;
    spells = k.spells;
    one = λ w q e y v h. some_one x s r k w q e y v h;
    over = λ w q e h. some_over x s r k w q e h;
  }

  some_wholes : (s r : Tokens) → HeadIs A s → (k : IsStuck G P s r) (y : Option X) (u : Tokens)
      → OptionSpells P y (k.before ++ take 1 r) u → HeadIs (Either A G) u
  some_wholes s r here k None u h =
      head_left A G u (head_moved A (k.before ++ take 1 r) u h (head_of_whole A k.before r (head_moved A s (k.before ++ r) k.cut here)))
  some_wholes s r here k (Some y) u h = head_right A G u (k.wholes y u h)

  pub some_stop : (s r : Tokens) (stop : ReadStop) → HeadIs A s → StopsIn G P s r stop → StopsIn (Either A G) (maybe P) s r stop
  some_stop s r NoMemory here k = tt
  some_stop s r Syntax here k = record {
    before = k.before;
    cut = k.cut;
    begun = inr k.begun;
    wholes = λ y u h. some_wholes s r here k y u h;
    stops = λ t q e h. elim h [ inl f ↦ ends k.before t [] f | inr g ↦ k.stops t q e g ];
  }

-- what is documented, behind these documentation comments
module _ {X : Type 0} (A G : Class) (P : List TraitSaid → Production X) (p : (docs : List TraitSaid) → IsFirm ⊥ A G (P docs)) where
  some_taken : (d : List TraitSaid) (x : X) (s r : Tokens) (k : IsRead G (P d) x s r) → k.taken ≡ [] → ⊥
  some_taken d x s r k e =
      head_moved A (k.taken ++ []) [] (ap (λ z. z ++ []) e) (starts A G (P d) (p d) x (k.taken ++ []) [] (k.spells []))

  docs_of : (d e : Option (List ℕ)) (s a r w : Tokens) → (a ≡ [] → ⊥) → s ≡ a ++ r → DocsBefore s d → DocsBefore (a ++ w) e → d ≡ e
  docs_of d e s a r w some cut h k = same_docs (a ++ r) d e (subst (λ z. DocsBefore z d) cut h) (docs_stay e a w r some k)

  pub documented_read : (d : Option (List ℕ)) (x : X) (s r : Tokens) → DocsBefore s d → IsRead G (P (docs_trait d)) x s r
      → IsRead G (documented P) x s r
  documented_read d x s r h k =
      let some = some_taken (docs_trait d) x s r k in
      record {
        taken = k.taken;
        cut = k.cut;
        spells = λ q. (d, docs_stay d k.taken r q some (subst (λ z. DocsBefore z d) k.cut h), k.spells q);
        one = λ w q e y v g. k.one w q e y v (subst (λ z. (P (docs_trait z)).whole y (k.taken ++ w) v)
            (sym (docs_of d g.0 s k.taken r w some k.cut h g.1)) g.2);
        over = λ w q e g. k.over w q e (subst (λ z. (P (docs_trait z)).begun (k.taken ++ w))
            (sym (docs_of d g.0 s k.taken r w some k.cut h g.1)) g.2);
      }

  docs_begun : (d : Option (List ℕ)) (b r s : Tokens) → s ≡ b ++ r → DocsBefore s d → (P (docs_trait d)).begun b → (documented P).begun b
  docs_begun d [] r s e h k = (None, refl, (p (docs_trait None)).empty)
  docs_begun d (t ∷ b) r s e h k = (d, subst (λ z. DocsBefore z d) e h, k)

  docs_heads : (d e : Option (List ℕ)) (b r s : Tokens) → s ≡ b ++ r → DocsBefore s d → DocsBefore (b ++ take 1 r) e → d ≡ e
  docs_heads d e [] [] s f h k = same_docs [] d e (subst (λ z. DocsBefore z d) f h) k
  docs_heads d e [] (t ∷ r) s f h k = same_docs (t ∷ r) d e (subst (λ z. DocsBefore z d) f h) k
  docs_heads d e (t ∷ b) r s f h k = same_docs (t ∷ (b ++ r)) d e (subst (λ z. DocsBefore z d) f h) k

  docs_up_to : (d e : Option (List ℕ)) (b : Tokens) (t : Spaced) (q s : Tokens) → s ≡ b ++ t ∷ q → DocsBefore s d
      → DocsBefore (b ++ t ∷ []) e → d ≡ e
  docs_up_to d e [] t q s f h k = same_docs (t ∷ q) d e (subst (λ z. DocsBefore z d) f h) k
  docs_up_to d e (u ∷ b) t q s f h k = same_docs (u ∷ (b ++ t ∷ q)) d e (subst (λ z. DocsBefore z d) f h) k

  pub documented_stop : (d : Option (List ℕ)) (s r : Tokens) (stop : ReadStop) → DocsBefore s d → StopsIn G (P (docs_trait d)) s r stop
      → StopsIn G (documented P) s r stop
  documented_stop d s r NoMemory h k = tt
  documented_stop d s r Syntax h k = record {
    before = k.before;
    cut = k.cut;
    begun = docs_begun d k.before r s k.cut h k.begun;
    wholes = λ x u g. k.wholes x u (subst (λ z. (P (docs_trait z)).whole x (k.before ++ take 1 r) u)
        (sym (docs_heads d g.0 k.before r s k.cut h g.1)) g.2);
    stops = λ t q e g. k.stops t q e (subst (λ z. (P (docs_trait z)).begun (k.before ++ t ∷ []))
        (sym (docs_up_to d g.0 k.before t q s (k.cut ∙ ap (λ z. k.before ++ z) e) h g.1)) g.2);
  }
