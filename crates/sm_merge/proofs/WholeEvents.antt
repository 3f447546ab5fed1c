-- Events of each kind behind those of mixins, put into order, are the events of the statements.
use Rattle.std.proofs.Common.{◌≡◌, inl, inr, ℕ, List, ◌++◌, map, length, sym, ap, subst, ◌∙◌, append_assoc, bytes_eq}
use Rattle.std.specs.Prelude.{◌↔◌}
use Rattle.std.specs.Global.{Vec}
use Rattle.std.specs.List.{Contains, list_any}
use Rattle.std.proofs.lemmas.List.Elements.{Contains-append_cases, Contains-append_left, Contains-append_right}
use Rattle.sm_model.specs.EventView.{AreInOrder, EventTold, events_view}
use Rattle.sm_model.specs.declared.event.ModelEvent.{ModelEvent}
use Rattle.sm_merge.specs.Merged.{AreEventsOf, HasBadMixin}
use Rattle.sm_merge.specs.Stated.{Stated}
use Rattle.sm_merge.specs.steps.AllEvents.{mixin_event}
use Rattle.sm_merge.specs.steps.EventLists.{HaveSameEvents, TellsMore, metadata_events, shape_event}
use Rattle.sm_merge.specs.steps.PlaceEvents.{applied_events, others_below, place_conflicts, places_below}
use Rattle.sm_merge.specs.steps.ToldEvents.{AreToldFrom}
use Rattle.sm_merge.specs.declared.firsts.NamedTarget.{NamedTarget}
use Rattle.sm_merge.specs.declared.mixins.Contributing.{Contributing}
use Rattle.sm_merge.specs.declared.tables.Tables.{Tables}
use Rattle.sm_merge.specs.declared.walk.Walk.{Walk}
use Rattle.sm_merge.proofs.AllEventsTold.{all_told}
use Rattle.sm_merge.proofs.EventsTold.{metadata_told, shapes_told}
use Rattle.sm_merge.proofs.MembersOther.{others_told}
use Rattle.sm_merge.proofs.PlacesThere.{applied_there, conflicts_there}

-- one list behind another, or before it
turned : (a b : List EventTold) (e : EventTold) → Contains (a ++ b) e → Contains (b ++ a) e
turned a b e has = elim (Contains-append_cases a b e has) [
  | inl first ↦ Contains-append_right b a e first
  | inr second ↦ Contains-append_left b a e second
]

-- six lists, one after the other
module _ (b s d c a o : List EventTold) where
  front : ((((b ++ s) ++ d) ++ c) ++ a) ++ o ≡ b ++ (s ++ (d ++ (c ++ (a ++ o))))
  front =
      append_assoc (((b ++ s) ++ d) ++ c) a o ∙ append_assoc ((b ++ s) ++ d) c (a ++ o) ∙ append_assoc (b ++ s) d (c ++ (a ++ o))
      ∙ append_assoc b s (d ++ (c ++ (a ++ o)))

  back : s ++ (d ++ (c ++ (a ++ (o ++ b)))) ≡ (s ++ (d ++ (c ++ (a ++ o)))) ++ b
  back = sym (append_assoc s (d ++ (c ++ (a ++ o))) b
      ∙ ap (λ l. s ++ l) (append_assoc d (c ++ (a ++ o)) b
      ∙ ap (λ l. d ++ l) (append_assoc c (a ++ o) b ∙ ap (λ l. c ++ l) (append_assoc a o b))))

  pub first_last : (es : List EventTold) → HaveSameEvents (((((b ++ s) ++ d) ++ c) ++ a) ++ o) es
      → HaveSameEvents (s ++ (d ++ (c ++ (a ++ (o ++ b))))) es
  first_last es same e = (
    λ has.
        (same e).0 (subst (λ l. Contains l e) (sym front)
        (turned (s ++ (d ++ (c ++ (a ++ o)))) b e (subst (λ l. Contains l e) back has))),
    λ has.
        subst (λ l. Contains l e) (sym back)
        (turned b (s ++ (d ++ (c ++ (a ++ o)))) e (subst (λ l. Contains l e) front ((same e).1 has))),
  )

module _ (ss : List Stated) (tables : Tables) (walk : Walk) (mixed : List (Vec Contributing)) (members : List (Vec NamedTarget))
    (t : AreToldFrom ss tables walk mixed members) where
  abbrev conflicts : List EventTold
  conflicts =
      place_conflicts tables.traits.items (places_below tables.shapes.rows.items members (length tables.shapes.rows.items))

  abbrev applied : List EventTold
  applied = applied_events
      (λ id. list_any (λ place. bytes_eq place id) (places_below tables.shapes.rows.items members (length tables.shapes.rows.items)))
      tables.applied.items

  abbrev others : List EventTold
  others = others_below tables.shapes.rows.items mixed members (length tables.shapes.rows.items)

  pub whole_told : (bad es : List EventTold)
      → ((e : EventTold) → Contains bad e ↔ ((id mixin : List ℕ) × HasBadMixin ss id mixin × (e ≡ mixin_event id mixin)))
      → HaveSameEvents
      (((((bad ++ map shape_event tables.shapes.wrong.items) ++ metadata_events tables.metadata.items) ++ conflicts) ++ applied)
      ++ others) es
      → AreInOrder es → AreEventsOf ss es
  whole_told bad es are same order =
      all_told ss
      (record {
        shapes = map shape_event tables.shapes.wrong.items;
        metadata = metadata_events tables.metadata.items;
        traits = conflicts;
        applied = applied;
        members = others;
        mixins = bad;
      })
      es
      (record {
        shapes = shapes_told ss tables.shapes.wrong.items t.tables.shapes.wrong;
        metadata = metadata_told ss tables.metadata.items t.tables.metadata;
        traits = conflicts_there ss tables.shapes.rows.items t.tables.shapes.rows members t.members t.made tables.traits.items
            t.tables.traits;
        applied = applied_there ss tables.shapes.rows.items t.tables.shapes.rows members t.members t.made tables.applied.items
            t.tables.applied;
        members = others_told ss tables.shapes.rows.items tables.traits.items walk t.walked mixed t.mixed members t.members t.made;
        mixins = are;
      })
      (first_last bad (map shape_event tables.shapes.wrong.items) (metadata_events tables.metadata.items)
      (place_conflicts tables.traits.items (places_below tables.shapes.rows.items members (length tables.shapes.rows.items)))
      (applied_events
      (λ id. list_any (λ place. bytes_eq place id) (places_below tables.shapes.rows.items members (length tables.shapes.rows.items)))
      tables.applied.items)
      (others_below tables.shapes.rows.items mixed members (length tables.shapes.rows.items)) es same)
      order

-- lists that are put one after the other
pub chained : (e0 e1 e2 e3 e4 : List ModelEvent) (s d c a o : List EventTold) → TellsMore e0 e1 s → TellsMore e1 e2 d
    → TellsMore e2 e3 (c ++ a) → TellsMore e3 e4 o → events_view e4 ≡ ((((events_view e0 ++ s) ++ d) ++ c) ++ a) ++ o
chained e0 e1 e2 e3 e4 s d c a o h1 h2 h3 h4 =
    h4.told
    ∙ ap (λ l. l ++ o) (h3.told ∙ ap (λ l. l ++ (c ++ a)) (h2.told ∙ ap (λ l. l ++ d) h1.told)
    ∙ sym (append_assoc ((events_view e0 ++ s) ++ d) c a))
