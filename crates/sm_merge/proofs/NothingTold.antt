-- Where nothing is applied and no values are in conflict, nothing is told of any place.
use Rattle.std.proofs.Common.{◌≡◌, ℕ, Bool, true, false, cond, List, [], ◌∷◌, ◌++◌, Some, refl, ap, ◌∙◌, append-nil}
use Rattle.std.specs.Prelude.{◌||◌, if◌then◌else◌}
use Rattle.std.specs.List.{flat_map}
use Rattle.std.specs.Option.{unwrap_or}
use Rattle.std.specs.Ordering.{is_eq}
use Rattle.std.specs.FinMap.Entries.{find}
use Rattle.std.proofs.lemmas.Bool.{true≢false}
use Rattle.sm_model.specs.EventView.{EventTold}
use Rattle.sm_model.specs.Graphs.{text_cmp}
use Rattle.sm_merge.specs.steps.EventLists.{if_conflict, trait_event}
use Rattle.sm_merge.specs.steps.PlaceEvents.{events_at, have_conflict, place_conflicts, some_conflict}
use Rattle.sm_merge.specs.steps.Tables.{places_view, traits_found}
use Rattle.sm_merge.specs.declared.table.NamedValue.{NamedValue}
use Rattle.sm_merge.specs.declared.table.PlaceRow.{PlaceRow}

neither : (a b : Bool) → (a || b) ≡ false → (a ≡ false) × (b ≡ false)
neither true b h = absurd (true≢false h)
neither false b h = (refl, h)

no_events : (told : List ℕ → EventTold) (vs : List NamedValue) → have_conflict vs ≡ false → flat_map (if_conflict told) vs ≡ []
no_events told [] h = refl
no_events told (v ∷ vs) h =
    let parts = neither v.folded.conflict (have_conflict vs) h in
    ap (λ b. (if b then told v.name ∷ [] else []) ++ flat_map (if_conflict told) vs) parts.0 ∙ no_events told vs parts.1

none_found : (id : List ℕ) (rows : List PlaceRow) → some_conflict rows ≡ false → have_conflict (traits_found id rows) ≡ false
none_found id [] h = refl
none_found id (r ∷ rows) h =
    let parts = neither (have_conflict r.traits.items) (some_conflict rows) h in
    by (is_eq (text_cmp id r.place)) parts.0 (none_found id rows parts.1)
  where
    by : (b : Bool) → have_conflict r.traits.items ≡ false → have_conflict (traits_found id rows) ≡ false
        → have_conflict (unwrap_or (cond b (Some r.traits.items) (find text_cmp id (places_view rows))) []) ≡ false
    by true here later = here
    by false here later = later

none_at : (rows : List PlaceRow) → some_conflict rows ≡ false → (places : List (List ℕ)) → place_conflicts rows places ≡ []
none_at rows h [] = refl
none_at rows h (id ∷ places) =
    ap (λ es. es ++ place_conflicts rows places) (no_events (trait_event id) (traits_found id rows) (none_found id rows h))
    ∙ none_at rows h places

pub nothing_told : (rows : List PlaceRow) (applied : List (List ℕ)) → applied ≡ [] → some_conflict rows ≡ false
    → (places : List (List ℕ)) → events_at rows applied places ≡ []
nothing_told rows applied none calm places =
    ap (λ ids. events_at rows ids places) none ∙ append-nil (place_conflicts rows places) ∙ none_at rows calm places
