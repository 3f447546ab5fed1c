-- Events that are put for rows of tables are those of the definitions.
use Rattle.std.proofs.Common.{◌≡◌, ◌⊎◌, ◌<◌, inl, inr, ℕ, zero, suc, Bool, true, false, cond, List, [], ◌∷◌, ◌++◌, map, length, Option}
use Rattle.std.proofs.Common.{Some, None, refl, sym, ap, subst, ◌∙◌, arith, bytes_eq}
use Rattle.std.specs.Prelude.{◌↔◌, IsTrue, MatchOption, if◌then◌else◌}
use Rattle.std.specs.List.{Contains, flat_map}
use Rattle.std.specs.Option.{unwrap_or}
use Rattle.std.specs.FinMap.Entries.{find}
use Rattle.std.proofs.lemmas.Bool.{cases_Bool, true≢false}
use Rattle.std.proofs.lemmas.Slice.Eq.{bytes_eq-Decides}
use Rattle.sm_tree.specs.Node.{Node}
use Rattle.sm_model.specs.EventView.{AreErrors, EventTold, event_view, events_view}
use Rattle.sm_model.specs.Graphs.{text_cmp}
use Rattle.sm_model.specs.steps.Rising.{Rise}
use Rattle.sm_model.specs.declared.event.ModelEvent.{ModelEvent}
use Rattle.sm_model.specs.declared.event.Severity.TheVariants.{Error}
use Rattle.sm_merge.specs.Merged.{HasOtherShape, IsStatedAgain}
use Rattle.sm_merge.specs.Places.{metadata_by, metadata_values, trait_values}
use Rattle.sm_merge.specs.Stated.{Stated}
use Rattle.sm_merge.specs.Values.{HaveConflict}
use Rattle.sm_merge.specs.steps.EventLists.{TellsMore, if_conflict, metadata_event, metadata_events, shape_event, trait_event, trait_events}
use Rattle.sm_merge.specs.steps.Folding.{IsFolded}
use Rattle.sm_merge.specs.steps.ShapeTables.{AreWrongIds}
use Rattle.sm_merge.specs.steps.Tables.{AreTraitsOf, AreValuesOf, folded_named, named_view, names_in, places_view, traits_found}
use Rattle.sm_merge.specs.declared.table.NamedValue.{NamedValue}
use Rattle.sm_merge.specs.declared.table.PlaceRow.{PlaceRow}
use Rattle.sm_merge.specs.declared.value.Folded.{Folded}
use Rattle.sm_groups.proofs.GroupsMade.{tests}
use Rattle.sm_merge.proofs.OneEffective.{same_some}
use Rattle.sm_merge.proofs.OneList.{Has, each_has, has_each}
use Rattle.sm_merge.proofs.PreludeGiven.{none_some}
use Rattle.sm_merge.proofs.TablesMade.{AllFound, all_found}

-- one more error behind others
pub errors_more : (es : List ModelEvent) (e : ModelEvent) → e.severity ≡ Error → AreErrors es → AreErrors (es ++ e ∷ [])
errors_more [] e is h = (is, tt)
errors_more (f ∷ es) e is h = (h.0, errors_more es e is h.1)

views_more : (es : List ModelEvent) (e : ModelEvent) → events_view (es ++ e ∷ []) ≡ events_view es ++ event_view e ∷ []
views_more [] e = refl
views_more (f ∷ es) e = ap (λ ts. event_view f ∷ ts) (views_more es e)

pub put_more : (before after : List ModelEvent) (e : ModelEvent) (t : EventTold) → after ≡ before ++ e ∷ [] → event_view e ≡ t
    → e.severity ≡ Error → TellsMore before after (t ∷ [])
put_more before after e t put told is = record {
  told = ap events_view put ∙ views_more before e ∙ ap (λ f. events_view before ++ f ∷ []) told;
  errors = λ h. subst AreErrors (sym put) (errors_more before e is h);
}

-- names of values that are in conflict: values of any kind, whose table tells for each name what they come to
module _ (told : List ℕ → EventTold) (values : List ℕ → List Node) (rows : List NamedValue) (rise : Rise (names_in rows))
    (each : (name : List ℕ) → MatchOption (find text_cmp name (named_view rows)) (values name ≡ []) (IsFolded (values name))) where
  abbrev all : List NamedValue → List EventTold
  all rs = flat_map (if_conflict told) rs

  abbrev IsConflict : EventTold → Type 0
  IsConflict e = (name : List ℕ) × HaveConflict (values name) × (e ≡ told name)

  -- what a row says
  row_is : (name : List ℕ) (f : Folded) → find text_cmp name (named_view rows) ≡ Some f → IsFolded (values name) f
  row_is name f e = subst (λ o. MatchOption o (values name ≡ []) (IsFolded (values name))) e (each name)

  from_rows : (rs : List NamedValue) → AllFound (λ k. find text_cmp k (named_view rows)) (named_view rs) → (e : EventTold)
      → Has e (all rs) → IsConflict e
  from_rows [] found e has = absurd has
  from_rows (r ∷ rs) found e has =
      by_test r.folded.conflict (λ so. (row_is r.name r.folded found.0).conflict.0 so) (λ rest. from_rows rs found.1 e rest) has
    where
      by_test : (b : Bool) → (IsTrue b → HaveConflict (values r.name)) → (Has e (all rs) → IsConflict e)
          → Has e ((if b then told r.name ∷ [] else []) ++ all rs) → IsConflict e
      by_test true so rest (inl same) = (r.name, so refl, same)
      by_test true so rest (inr has) = rest has
      by_test false so rest has = rest has

  to_rows : (name : List ℕ) (f : Folded) → IsTrue f.conflict → (rs : List NamedValue) → find text_cmp name (named_view rs) ≡ Some f
      → Has (told name) (all rs)
  to_rows name f conflict [] at = none_some f at
  to_rows name f conflict (r ∷ rs) at = elim (cases_Bool (bytes_eq r.name name)) [
    | inl same ↦ here r.folded.conflict same (subst (λ g. IsTrue g.conflict) (sym (first same)) conflict)
    | inr apart ↦ behind r.folded.conflict (to_rows name f conflict rs (passed apart))
  ]
    where
      first : bytes_eq r.name name ≡ true → r.folded ≡ f
      first same =
          same_some r.folded f (sym (ap (λ b. cond b (Some r.folded) (find text_cmp name (named_view rs))) (tests name r.name ∙ same)) ∙ at)

      passed : bytes_eq r.name name ≡ false → find text_cmp name (named_view rs) ≡ Some f
      passed apart = sym (ap (λ b. cond b (Some r.folded) (find text_cmp name (named_view rs))) (tests name r.name ∙ apart)) ∙ at

      here : (b : Bool) → bytes_eq r.name name ≡ true → IsTrue b → Has (told name) ((if b then told r.name ∷ [] else []) ++ all rs)
      here true same conflict = inl (ap told (sym ((bytes_eq-Decides r.name name).0 same)))
      here false same conflict = absurd (true≢false (sym conflict))

      behind : (b : Bool) → Has (told name) (all rs) → Has (told name) ((if b then told r.name ∷ [] else []) ++ all rs)
      behind true has = inr has
      behind false has = has

  to_events : (name : List ℕ) → HaveConflict (values name) → Has (told name) (all rows)
  to_events name conflict = by_found (find text_cmp name (named_view rows)) refl (each name)
    where
      by_found : (o : Option Folded) → find text_cmp name (named_view rows) ≡ o
          → MatchOption o (values name ≡ []) (IsFolded (values name)) → Has (told name) (all rows)
      by_found None e none = absurd (subst HaveConflict none conflict)
      by_found (Some f) e is = to_rows name f (is.conflict.1 conflict) rows e

  pub conflicts_told : (e : EventTold) → Contains (all rows) e ↔ IsConflict e
  conflicts_told e = (
    λ has. from_rows rows (all_found (named_view rows) rise) e (has_each e (all rows) has),
    λ is. each_has e (all rows) (subst (λ f. Has f (all rows)) (sym is.2) (to_events is.0 is.1)),
  )

-- the events of metadata
pub metadata_told : (ss : List Stated) (rows : List NamedValue) → AreValuesOf (flat_map metadata_by ss) rows → (e : EventTold)
    → Contains (metadata_events rows) e ↔ ((key : List ℕ) × HaveConflict (metadata_values ss key) × (e ≡ metadata_event key))
metadata_told ss rows are e = conflicts_told metadata_event (metadata_values ss) rows are.rise are.each e

-- the events of the traits of one shape or member
pub traits_told : (ss : List Stated) (rows : List PlaceRow) → AreTraitsOf ss rows → (place : List ℕ) (e : EventTold)
    → Contains (trait_events place (traits_found place rows)) e
    ↔ ((name : List ℕ) × HaveConflict (trait_values ss place name) × (e ≡ trait_event place name))
traits_told ss rows are place e =
    conflicts_told (trait_event place) (trait_values ss place) (traits_found place rows) (are.names place)
    (λ name. found name (find text_cmp place (places_view rows)) (are.each place name)) e
  where
    found : (name : List ℕ) (o : Option (List NamedValue))
        → MatchOption (folded_named name o) (trait_values ss place name ≡ []) (IsFolded (trait_values ss place name))
        → MatchOption (find text_cmp name (named_view (unwrap_or o []))) (trait_values ss place name ≡ [])
        (IsFolded (trait_values ss place name))
    found name None h = h
    found name (Some vs) h = h

-- the events of shapes that are stated again otherwise
from_ids : (ks : List (List ℕ)) (e : EventTold) → Has e (map shape_event ks) → (id : List ℕ) × Contains ks id × (e ≡ shape_event id)
from_ids [] e has = absurd has
from_ids (k ∷ ks) e (inl same) = let inside : 0 < length (k ∷ ks) = omega arith in (k, (0, inside, refl), same)
from_ids (k ∷ ks) e (inr has) =
    let rest = from_ids ks e has in
    let less : rest.1.0 < length ks = rest.1.1 in
    let inside : suc rest.1.0 < length (k ∷ ks) = omega (arith, less) in
    (rest.0, (suc rest.1.0, inside, rest.1.2), rest.2)

to_ids : (ks : List (List ℕ)) (id : List ℕ) → Contains ks id → Has (shape_event id) (map shape_event ks)
to_ids [] id (k, inside, at) = absurd (omega (arith, inside))
to_ids (j ∷ js) id (zero, inside, at) = inl (ap shape_event (sym at))
to_ids (j ∷ js) id (suc k, inside, at) = let less : k < length js = omega (arith, inside) in inr (to_ids js id (k, less, at))

pub shapes_told : (ss : List Stated) (ids : List (List ℕ)) → AreWrongIds ss ids → (e : EventTold)
    → Contains (map shape_event ids) e ↔ ((id : List ℕ) × (HasOtherShape ss id ⊎ IsStatedAgain ss id) × (e ≡ shape_event id))
shapes_told ss ids are e = (
  λ has. let found = from_ids ids e (has_each e (map shape_event ids) has) in (found.0, (are found.0).0 found.1, found.2),
  λ is. each_has e (map shape_event ids)
      (subst (λ f. Has f (map shape_event ids)) (sym is.2) (to_ids ids is.0 ((are is.0).1 is.1))),
)
