-- Documentation comments before a token, and what is documented by them.
use Rattle.std.proofs.Common.{◌≡◌, ◌≤◌, ℕ, List, [], ◌∷◌, ◌++◌, map, drop, length, Option}
use Rattle.std.proofs.Common.{Some, None, codes, Result, Ok, Err, Vec, refl, sym, ap, subst, ◌∙◌}
use Rattle.std.proofs.lemmas.List.{drop_all}
use Rattle.std.specs.declared.alloc.Global.{Global}
use Rattle.sm_lex.specs.Tokens.{lexeme_of}
use Rattle.sm_lex.specs.declared.token.Token.{Token}
use Rattle.sm_bytes.specs.declared.no_memory.NoMemory.{NoMemory as OutOfMemory}
use Rattle.sm_tree.specs.Node.{text}
use Rattle.sm_model.specs.Raw.{Raw, raw_leaf}
use Rattle.sm_model.specs.Said.{TraitSaid}
use Rattle.sm_model.specs.SaidView.{trait_view, traits_view}
use Rattle.sm_model.specs.declared.statement.TraitUse.{TraitUse}
use Rattle.sm_idl.specs.Productions.{Spaced, Tokens, spaced_from, Production}
use Rattle.sm_idl.specs.Traits.{DocsBefore, standing_for, docs_trait, documented}
use Rattle.sm_idl.specs.declared.reader.ReadStop.{ReadStop}
use Rattle.sm_idl.specs.steps.DocSteps.{DocumentsTrait, ReadsDocs}
use Rattle.sm_idl.specs.steps.Firm.{Class, IsFirm}
use Rattle.sm_idl.specs.steps.Reading.{IsRead}
use Rattle.sm_idl.specs.steps.ReaderView.{NoToken, StopsIn, ReadsAs, ReadsOn}
use Rattle.sm_idl.proofs.Choosing.{documented_read, documented_stop}

-- before a token stands what its whitespace says
pub docs_moved : (s : Tokens) (t : Spaced) (r : Tokens) (result : Result (Vec TraitUse Global) OutOfMemory) → s ≡ t ∷ r
    → DocumentsTrait t.space result → ReadsDocs s result
docs_moved s t r (Ok traits) e (d, h, k) = (d, subst (λ z. DocsBefore z d) (sym e) h, k)
docs_moved s t r (Err x) e h = tt

-- at the end stands nothing
pub docs_none : (bytes : List ℕ) (behind at : ℕ) (xs : List Token) (traits : List TraitUse) → length xs ≤ at → traits ≡ []
    → (d : Option (List ℕ)) × DocsBefore (spaced_from bytes behind (map lexeme_of (drop at xs))) d × (traits_view traits ≡ docs_trait d)
docs_none bytes behind at xs traits past none = (
  None,
  subst (λ l. DocsBefore (spaced_from bytes behind (map lexeme_of l)) None) (sym (drop_all at xs past)) refl,
  ap traits_view none,
)

-- what the comments say, put as a trait
pub docs_put : (d : List ℕ) (n : Raw) (given : TraitUse) (old new : List TraitUse) → old ≡ [] → new ≡ old ++ given ∷ []
    → trait_view given ≡ standing_for (codes "documentation") n → n ≡ raw_leaf (text d) → traits_view new ≡ docs_trait (Some d)
docs_put d n given old new e f g h =
    ap traits_view (f ∙ ap (λ l. l ++ given ∷ []) e) ∙ ap (λ t. t ∷ []) (g ∙ ap (λ m. standing_for (codes "documentation") m) h)

-- what is documented is read as what it is behind its documentation
module _ {V X : Type 0} (A : Class) (view : V → X) (P : List TraitSaid → Production X) where
  pub documented_as : ((docs : List TraitSaid) → IsFirm ⊥ A NoToken (P docs)) → (d : Option (List ℕ)) (ts : List TraitSaid) (s r : Tokens)
      (result : Result V ReadStop) → ts ≡ docs_trait d → DocsBefore s d → ReadsAs view (P ts) s r result
      → ReadsAs view (documented P) s r result
  documented_as p d ts s r (Ok v) e h k = (d, h, subst (λ z. (P z).whole (view v) s r) e k)
  documented_as p d ts s r (Err stop) e h k =
      documented_stop A NoToken P p d s r stop h (subst (λ z. StopsIn NoToken (P z) s r stop) e k)

  pub documented_on : (G : Class) → ((docs : List TraitSaid) → IsFirm ⊥ A G (P docs)) → (d : Option (List ℕ)) (ts : List TraitSaid)
      (s r : Tokens) (result : Result V ReadStop) → ts ≡ docs_trait d → DocsBefore s d → ReadsOn G view (P ts) s r result
      → ReadsOn G view (documented P) s r result
  documented_on G p d ts s r (Ok v) e h k =
      documented_read A G P p d (view v) s r h (subst (λ z. IsRead G (P z) (view v) s r) e k)
  documented_on G p d ts s r (Err stop) e h k =
      documented_stop A G P p d s r stop h (subst (λ z. StopsIn G (P z) s r stop) e k)
