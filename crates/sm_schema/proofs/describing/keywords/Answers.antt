use Rattle.std.proofs.Common.{sym, ap, ◌∙◌}
use Rattle.sm_shapes.specs.TableView.{table_data}
use Rattle.sm_codec.specs.PlaceView.{place_of}
use Rattle.sm_schema.specs.steps.Numbered.{listing_of}
use Rattle.sm_schema.specs.steps.WithNotes.{keywords_for, notes_seen}
use Rattle.sm_schema.proofs.OkParts.{if_ok}
use Rattle.sm_schema.proofs.describing.keywords.Goals as goal

pub returns-in-List : goal.returns-in-List
returns-in-List c =
    let d = listing_of (table_data c.args.table.now) c.args.json_names c.args.all.now in
    if_ok c.list_definition.result (λ tree says. says c.args.json_names
    ∙ ap (λ k. keywords_for k (notes_seen c.args.notes) d (place_of c.args.place)) (sym c.in-List.is ∙ c.kind.ensures)) c.list_definition.ensures

pub returns-in-Map : goal.returns-in-Map
returns-in-Map c =
    let d = listing_of (table_data c.args.table.now) c.args.json_names c.args.all.now in
    if_ok c.map_definition.result (λ tree says. says c.args.json_names
    ∙ ap (λ k. keywords_for k (notes_seen c.args.notes) d (place_of c.args.place)) (sym c.in-Map.is ∙ c.kind.ensures)) c.map_definition.ensures
