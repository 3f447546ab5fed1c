use Rattle.std.proofs.Common.{length, map, sym, subst, bytes_eq}
use Rattle.std.specs.List.{list_any}
use Rattle.sm_model.specs.EventView.{events_view}
use Rattle.sm_merge.specs.steps.Contributing.{AreWalkedTables}
use Rattle.sm_merge.specs.steps.EventLists.{HaveSameEvents, TellsMore, metadata_events, shape_event}
use Rattle.sm_merge.specs.steps.NamedIds.{AreNamedIds}
use Rattle.sm_merge.specs.steps.PlaceEvents.{applied_events, events_at, others_below, place_conflicts, places_below}
use Rattle.sm_merge.proofs.WholeEvents.{chained, whole_told}
use Rattle.sm_merge.proofs.events_all.all_events.Goals as goal

pub put_place_events-requires-clause-named : goal.put_place_events-requires-clause-named
put_place_events-requires-clause-named c =
    subst (λ rs. AreNamedIds rs c.args.members.now) (sym c.as_slice-rows.ensures.value) c.requires.named

pub put_member_events-requires-clause-named : goal.put_member_events-requires-clause-named
put_member_events-requires-clause-named c =
    subst (λ rs. AreNamedIds rs c.args.members.now) (sym c.as_slice-rows.ensures.value) c.requires.named

pub returns-clause-told : goal.returns-clause-told
returns-clause-told c = λ ss t.
    let tables = c.args.tables.now in
    let members = c.args.members.now in
    let rows = c.as_slice-rows.ensures.value in
    let traits = c.as_slice-traits.ensures.value in
    let places = places_below tables.shapes.rows.items members (length tables.shapes.rows.items) in
    whole_told ss c.args.tables.now c.args.walk.now c.args.mixed.now c.args.members.now t (events_view c.in_ok-events.events.items)
    (events_view c.in_order.result)
    (c.in_ok-events.ensures.told ss
    (subst (λ rs. AreWalkedTables ss rs c.as_slice-traits.result.now c.args.walk.now) (sym rows)
    (subst (λ ts. AreWalkedTables ss c.args.tables.now.shapes.rows.items ts c.args.walk.now) (sym traits) t.walked)))
    (subst (λ l. HaveSameEvents l (events_view c.in_order.result))
    (chained c.in_ok-events.events.items c.put_shape_events.new.events.items c.put_metadata_events.new.events.items
    c.put_place_events.new.events.items c.put_member_events.new.events.items
    (map shape_event tables.shapes.wrong.items) (metadata_events tables.metadata.items) (place_conflicts tables.traits.items places)
    (applied_events (λ id. list_any (λ place. bytes_eq place id) places) tables.applied.items)
    (others_below tables.shapes.rows.items c.args.mixed.now members (length tables.shapes.rows.items))
    (subst (λ w. TellsMore c.in_ok-events.events.items c.put_shape_events.new.events.items (map shape_event w)) c.as_slice.ensures.value
    c.in_ok-put_shape_events.ensures)
    (subst (λ w. TellsMore c.put_shape_events.new.events.items c.put_metadata_events.new.events.items (metadata_events w))
    c.as_slice-2.ensures.value c.in_ok-put_metadata_events.ensures)
    (subst (λ ids. TellsMore c.put_metadata_events.new.events.items c.put_place_events.new.events.items
    (events_at tables.traits.items ids places)) c.as_slice-applied.ensures.value
    (subst (λ ts. TellsMore c.put_metadata_events.new.events.items c.put_place_events.new.events.items
    (events_at ts c.as_slice-applied.result.now places)) traits
    (subst (λ rs. TellsMore c.put_metadata_events.new.events.items c.put_place_events.new.events.items
    (events_at c.as_slice-traits.result.now c.as_slice-applied.result.now (places_below rs members (length rs)))) rows
    c.in_ok-put_place_events.ensures)))
    (subst (λ rs. TellsMore c.put_place_events.new.events.items c.put_member_events.new.events.items
    (others_below rs c.args.mixed.now members (length rs))) rows c.in_ok-put_member_events.ensures))
    c.in_order.ensures.same)
    c.in_order.ensures.order
