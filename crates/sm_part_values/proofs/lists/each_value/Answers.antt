use Rattle.std.proofs.Common.{◌+◌, ◌∷◌, true, drop, sym, ap, subst, ◌∙◌}
use Rattle.std.proofs.lemmas.List.{drop_more}
use Rattle.std.specs.Prelude.{Err}
use Rattle.sm_shapes.specs.TableView.{table_data}
use Rattle.sm_shapes.specs.ValueView.{vals_view}
use Rattle.sm_codec.specs.Codec.{InTable, codec_of}
use Rattle.sm_codec.specs.Conventions.{json_convention}
use Rattle.sm_codec.specs.PlaceView.{place_of}
use Rattle.sm_codec.proofs.PlacesIn.{entry_in}
use Rattle.sm_part_values.specs.FormView.{form_of}
use Rattle.sm_part_values.specs.Joins.{JoinsTo}
use Rattle.sm_part_values.specs.PartTexts.{entry_child}
use Rattle.sm_part_values.proofs.EntriesJoined.{EntriesSoFar, entries_refused}
use Rattle.sm_part_values.proofs.lists.each_value.Goals as goal

pub entry_value-requires-clause-place : goal.entry_value-requires-clause-place
entry_value-requires-clause-place g c =
    let t = table_data c.args.table.now in
    subst (InTable t) (sym c.entry.ensures) (entry_in t (place_of c.args.place) c.requires.shaped c.requires.place c.requires.list)

pub returns-in-Err-clause-joins : goal.returns-in-Err-clause-joins
returns-in-Err-clause-joins g c =
    let t = table_data c.args.table.now in
    let codec = codec_of t (json_convention true) g.P.Patterns.test in
    let f = form_of c.args.form in
    let p = place_of c.args.place in
    let es = c.args.entries.now in
    let i = c.loop-index.index in
    let one = c.index-entries-index.result in
    let rest = drop (i + 1) es in
    let vs = vals_view c.loop-index.values.items in
    let parts = drop_more es i one c.loop-index-test.true ∙ ap (λ y. y ∷ rest) (sym c.index-entries-index.is) in
    entries_refused f codec p es i one rest vs
    (subst (λ more. EntriesSoFar f codec p es i more vs) parts c.loop-index.invariant.so_far) c.in-Err.refusal c.at_index.result
    (subst (λ q. JoinsTo ((entry_child f codec one).reading q) (Err c.in-Err.refusal)) c.entry.ensures c.in-Err.ensures.joins) c.at_index.ensures
