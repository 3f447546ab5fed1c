use Rattle.std.proofs.Common.{ap, sym, ◌∙◌}
use Rattle.sm_tree.specs.View.{members_view}
use Rattle.sm_shapes.specs.Places.{kind_of}
use Rattle.sm_shapes.specs.TableView.{table_data}
use Rattle.sm_codec.specs.PlaceView.{place_of}
use Rattle.sm_schema.specs.Noted.{noted}
use Rattle.sm_schema.specs.steps.Joined.{joined}
use Rattle.sm_schema.specs.steps.Numbered.{listing_of, places_in}
use Rattle.sm_schema.specs.steps.WithNotes.{keywords_for, notes_seen, place_for}
use Rattle.sm_schema.proofs.OkParts.{if_ok}
use Rattle.sm_schema.proofs.describing.definition.Goals as goal

pub returns-in_ok-before-in-Some : goal.returns-in_ok-before-in-Some
returns-in_ok-before-in-Some c =
    let t = table_data c.args.table.now in
    let p = place_of c.args.place in
    let d = listing_of t c.args.json_names c.args.all.now in
    let keywords = keywords_for (kind_of t p) (notes_seen c.args.notes) d p in
    let before = c.in_ok-before-in-Some.ensures c.args.json_names (places_in c.args.all.now) in
    if_ok c.noted.result (λ tree says. says
    ∙ ap (noted (λ more. joined (members_view c.in_ok-before-in-Some.before.pairs.items) more)) c.in_ok-made.ensures
    ∙ (λ i. noted (λ more. before more i) keywords)
    ∙ ap (λ o. place_for (notes_seen o) d p keywords) (sym c.in-Some.is)) c.noted.ensures
