-- Rows of traits, and of ids, that the reader fills, one entry more at a time.
use Rattle.std.proofs.Common.{◌≡◌, ◌<◌, ℕ, false, List, [], ◌∷◌, ◌++◌, map, sym, ap, ◌∙◌, length, append_assoc, append-nil}
use Rattle.std.proofs.lemmas.List.{map_push}
use Rattle.sm_model.specs.Said.{TraitSaid}
use Rattle.sm_model.specs.SaidView.{trait_view, traits_view}
use Rattle.sm_model.specs.declared.reference.Ref.{Ref}
use Rattle.sm_model.specs.declared.statement.TraitUse.{TraitUse}
use Rattle.sm_idl.specs.Productions.{Tokens, many}
use Rattle.sm_idl.specs.Words.{IsWordId, id}
use Rattle.sm_idl.specs.Nodes.{Home, written}
use Rattle.sm_idl.specs.Traits.{applied, traits}
use Rattle.sm_idl.specs.declared.reader.ReadStop.{ReadStop}
use Rattle.sm_idl.specs.steps.ReaderView.{NoToken, StopsIn}
use Rattle.sm_idl.specs.steps.Firm.{HeadIs}
use Rattle.sm_idl.specs.steps.Classes.{Either, AnyWord, At, Paren, TraitGoesOn}
use Rattle.sm_idl.specs.steps.Reading.{IsRead}
use Rattle.sm_idl.proofs.FirmTraits.{word_firm, applied_firm, paren_no_at}
use Rattle.sm_idl.proofs.Passing.{read_whole, shorter}
use Rattle.sm_idl.proofs.Rows.{IsRow, row_none, row_more, row_read, row_stop, ended_more, ended_read, ended_stop}

-- traits that came behind those that there were
abbrev pub GrownBy : Home → List TraitUse → List TraitUse → Tokens → Tokens → Type 0
GrownBy home old new s a =
    (ts : List TraitSaid) × (traits_view new ≡ traits_view old ++ ts) × IsRow TraitGoesOn (λ _. applied home) [] ts s a

module _ (home : Home) where
  pub traits_none : (old : List TraitUse) (s : Tokens) → GrownBy home old old s s
  traits_none old s =
      ([], sym (append-nil (traits_view old)), row_none At Paren (λ _. applied home) (λ _. applied_firm home) paren_no_at [] s)

  pub traits_more : (old have new : List TraitUse) (x : TraitUse) (s a r : Tokens) → new ≡ have ++ x ∷ [] → GrownBy home old have s a
      → IsRead Paren (applied home) (trait_view x) a r → GrownBy home old new s r
  traits_more old have new x s a r e (ts, f, i) m = (
    ts ++ trait_view x ∷ [],
    ap traits_view e ∙ map_push trait_view have x ∙ ap (λ l. l ++ trait_view x ∷ []) f
        ∙ append_assoc (traits_view old) ts (trait_view x ∷ []),
    row_more At Paren (λ _. applied home) (λ _. applied_firm home) paren_no_at [] ts (trait_view x) s a r i m,
  )

  pub traits_fewer : (x : TraitSaid) (a r : Tokens) → IsRead Paren (applied home) x a r → length r < length a
  traits_fewer x a r m = shorter (applied home) (applied_firm home) x a r (read_whole (applied home) x a r m)

  pub traits_read : (old new : List TraitUse) (s a : Tokens) → GrownBy home old new s a → (HeadIs At a → ⊥)
      → (ts : List TraitSaid) × (traits_view new ≡ traits_view old ++ ts) × IsRead TraitGoesOn (traits home) ts s a
  traits_read old new s a (ts, f, i) none =
      (ts, f, row_read At Paren (λ _. applied home) (λ _. applied_firm home) paren_no_at [] ts s a i none)

  pub traits_stop : (old new : List TraitUse) (s a r : Tokens) (stop : ReadStop) → GrownBy home old new s a → HeadIs At a
      → StopsIn Paren (applied home) a r stop → StopsIn TraitGoesOn (traits home) s r stop
  traits_stop old new s a r stop (ts, f, i) here k =
      row_stop At Paren (λ _. applied home) (λ _. applied_firm home) paren_no_at [] ts s a r stop i here k

  abbrev made : List ℕ → Ref
  made w = written home w false

  -- references that came
  abbrev pub IdsSoFar : List Ref → Tokens → Tokens → Type 0
  IdsSoFar refs s a = (ws : List (List ℕ)) × (refs ≡ map made ws) × IsRow (Either AnyWord NoToken) (λ _. id) [] ws s a

  pub ids_none : (refs : List Ref) (s : Tokens) → refs ≡ [] → IdsSoFar refs s s
  ids_none refs s e = ([], e, row_none AnyWord NoToken (λ _. id) (λ _. word_firm IsWordId) (λ t n a. n) [] s)

  pub ids_more : (have new : List Ref) (w : List ℕ) (r : Ref) (s a b : Tokens) → new ≡ have ++ r ∷ [] → r ≡ made w → IdsSoFar have s a
      → id.whole w a b → IdsSoFar new s b
  ids_more have new w r s a b e f (ws, g, i) h = (
    ws ++ w ∷ [],
    e ∙ ap (λ l. l ++ r ∷ []) g ∙ ap (λ z. map made ws ++ z ∷ []) f ∙ sym (map_push made ws w),
    ended_more AnyWord (λ _. id) (λ _. word_firm IsWordId) [] ws w s a b i h,
  )

  pub ids_fewer : (w : List ℕ) (a r : Tokens) → id.whole w a r → length r < length a
  ids_fewer w a r h = shorter id (word_firm IsWordId) w a r h

  pub ids_read : (refs : List Ref) (s a : Tokens) → IdsSoFar refs s a → (HeadIs AnyWord a → ⊥)
      → (ws : List (List ℕ)) × (refs ≡ map made ws) × IsRead AnyWord (many id) ws s a
  ids_read refs s a (ws, g, i) none = (ws, g, ended_read AnyWord (λ _. id) (λ _. word_firm IsWordId) [] ws s a i none)

  pub ids_stop : (refs : List Ref) (s a r : Tokens) (stop : ReadStop) → IdsSoFar refs s a → HeadIs AnyWord a → StopsIn NoToken id a r stop
      → StopsIn AnyWord (many id) s r stop
  ids_stop refs s a r stop (ws, g, i) here k = ended_stop AnyWord (λ _. id) (λ _. word_firm IsWordId) [] ws s a r stop i here k
