-- Rows of such as end by themselves, as the reader fills a vector with them, one entry more at a time.
use Rattle.std.proofs.Common.{◌≡◌, ◌<◌, ℕ, List, [], ◌∷◌, ◌++◌, map, sym, ap, subst, ◌∙◌, length}
use Rattle.std.proofs.lemmas.List.{map_push}
use Rattle.std.specs.BTreeSet.{BTreeSet}
use Rattle.std.specs.declared.alloc.Global.{Global}
use Rattle.std.specs.declared.string.String.{String}
use Rattle.sm_idl.specs.Productions.{Tokens, Production, each}
use Rattle.sm_idl.specs.declared.reader.ReadStop.{ReadStop}
use Rattle.sm_idl.specs.steps.Classes.{Either}
use Rattle.sm_idl.specs.steps.Firm.{Class, HeadIs, IsFirm}
use Rattle.sm_idl.specs.steps.Names.{Remembers}
use Rattle.sm_idl.specs.steps.ReaderView.{NoToken, StopsIn}
use Rattle.sm_idl.specs.steps.Reading.{IsRead}
use Rattle.sm_idl.proofs.Passing.{shorter}
use Rattle.sm_idl.proofs.Rows.{IsRow, row_none, ended_more, ended_read, ended_stop}

-- these came, of which the reader holds what they are seen as
abbrev pub CameBy : {V X : Type 0} → Class → (List X → Production X) → (V → X) → List V → Tokens → Tokens → Type 0
CameBy A P view have s a = IsRow (Either A NoToken) P [] (map view have) s a

-- the names that came, with those of one more
pub more_seen : {V X : Type 0} (view : V → X) (names : List X → List (List ℕ)) (set : BTreeSet (String Global)) (have more : List V) (x : V)
    → more ≡ have ++ x ∷ [] → Remembers set (names (map view have ++ view x ∷ [])) → Remembers set (names (map view more))
more_seen view names set have more x e h =
    subst (λ l. Remembers set (names l)) (sym (ap (λ l. map view l) e ∙ map_push view have x)) h

module _ {V X : Type 0} (A : Class) (P : List X → Production X) (p : (before : List X) → IsFirm ⊥ A NoToken (P before)) (view : V → X) where
  pub viewed_none : (have : List V) (s : Tokens) → have ≡ [] → CameBy A P view have s s
  viewed_none have s e = subst (λ l. CameBy A P view l s s) (sym e) (row_none A NoToken P p (λ t m a. m) [] s)

  pub viewed_more : (have more : List V) (x : V) (s a r : Tokens) → more ≡ have ++ x ∷ [] → CameBy A P view have s a
      → (P (map view have)).whole (view x) a r → CameBy A P view more s r
  viewed_more have more x s a r e i h =
      subst (λ l. IsRow (Either A NoToken) P [] l s r) (sym (ap (λ l. map view l) e ∙ map_push view have x))
      (ended_more A P p [] (map view have) (view x) s a r i h)

  pub viewed_fewer : (before : List X) (x : V) (a r : Tokens) → (P before).whole (view x) a r → length r < length a
  viewed_fewer before x a r h = shorter (P before) (p before) (view x) a r h

  pub viewed_read : (have : List V) (s a : Tokens) → CameBy A P view have s a → (HeadIs A a → ⊥) → IsRead A (each P) (map view have) s a
  viewed_read have s a i none = ended_read A P p [] (map view have) s a i none

  pub viewed_stop : (have : List V) (s a r : Tokens) (stop : ReadStop) → CameBy A P view have s a → HeadIs A a
      → StopsIn NoToken (P (map view have)) a r stop → StopsIn A (each P) s r stop
  viewed_stop have s a r stop i here k = ended_stop A P p [] (map view have) s a r stop i here k
