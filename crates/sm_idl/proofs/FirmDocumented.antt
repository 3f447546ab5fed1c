-- What is documented is read from the front as it is without its documentation.
use Rattle.std.proofs.Common.{◌≡◌, ◌⊎◌, ℕ, List, [], ◌∷◌, ◌++◌, Option, None, refl, sym, subst, ◌∙◌}
use Rattle.sm_lex.proofs.DocTexts.{one_documentation}
use Rattle.sm_model.specs.Said.{TraitSaid}
use Rattle.sm_idl.specs.Productions.{Spaced, Tokens, Production}
use Rattle.sm_idl.specs.Traits.{DocsBefore, docs_trait, documented}
use Rattle.sm_idl.specs.steps.Firm.{Class, HeadIs, Takes, IsFirm}

pub same_docs : (s : Tokens) (d e : Option (List ℕ)) → DocsBefore s d → DocsBefore s e → d ≡ e
same_docs [] d e h k = h ∙ sym k
same_docs (t ∷ s) d e h k = one_documentation t.space d e h k

pub docs_stay : (d : Option (List ℕ)) (a r q : Tokens) → (a ≡ [] → ⊥) → DocsBefore (a ++ r) d → DocsBefore (a ++ q) d
docs_stay d [] r q n h = absurd (n refl)
docs_stay d (t ∷ a) r q n h = h

module _ {X : Type 0} (A G : Class) (P : List TraitSaid → Production X) (p : (docs : List TraitSaid) → IsFirm ⊥ A G (P docs)) where
  documented_takes : (x : X) (s r : Tokens) → (documented P).whole x s r → Takes ⊥ (documented P) x s r
  documented_takes x s r (d, h, k) =
      let a = (p (docs_trait d)).takes x s r k in
      record {
        taken = a.taken;
        cut = a.cut;
        some = a.some;
        spells = λ w. (d, docs_stay d a.taken r w a.some (subst (λ z. DocsBefore z d) a.cut h), a.spells w);
      }

  documented_single : (x y : X) (s r w : Tokens) → (documented P).whole x s r → (documented P).whole y s w
      → ((x ≡ y) × (r ≡ w)) ⊎ (HeadIs G r ⊎ HeadIs G w)
  documented_single x y s r w (d, h, k) (e, m, n) =
      (p (docs_trait e)).single x y s r w (subst (λ z. (P (docs_trait z)).whole x s r) (same_docs s d e h m) k) n

  documented_cut : (x : X) (s r : Tokens) → (documented P).whole x s r → (documented P).begun s → (r ≡ []) ⊎ HeadIs G r
  documented_cut x s r (d, h, k) (e, m, n) =
      (p (docs_trait e)).cut x s r (subst (λ z. (P (docs_trait z)).whole x s r) (same_docs s d e h m) k) n

  documented_prefix : (x : X) (a : Tokens) (t : Spaced) (b : Tokens) → (documented P).whole x (a ++ t ∷ b) [] → (documented P).begun a
  documented_prefix x [] t b h = (None, refl, (p (docs_trait None)).empty)
  documented_prefix x (u ∷ a) t b (d, h, k) = (d, h, (p (docs_trait d)).prefix x (u ∷ a) t b k)

  documented_closed : (a : Tokens) (t : Spaced) (b : Tokens) → (documented P).begun (a ++ t ∷ b) → (documented P).begun a
  documented_closed [] t b h = (None, refl, (p (docs_trait None)).empty)
  documented_closed (u ∷ a) t b (d, h, k) = (d, h, (p (docs_trait d)).closed (u ∷ a) t b k)

  pub documented_firm : IsFirm ⊥ A G (documented P)
  documented_firm = record {
    empty = (None, refl, (p (docs_trait None)).empty);
    takes = documented_takes;
    head = λ x s r h. (p (docs_trait h.0)).head x s r h.2;
    head_cut = λ s h. (p (docs_trait h.0)).head_cut s h.2;
    single = documented_single;
    cut = documented_cut;
    prefix = documented_prefix;
    closed = documented_closed;
  }
