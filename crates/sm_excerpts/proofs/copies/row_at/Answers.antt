use Rattle.std.proofs.Common.{◌≡◌, length, sym, ap, ◌∙◌}
use Rattle.std.specs.Prelude.{Some, slice_get}
use Rattle.std.specs.Option.{option_map}
use Rattle.std.proofs.lemmas.Bool.Decides.{Decides-ltb}
use Rattle.std.proofs.lemmas.Option.{slice_get-map, slice_get-get_or, slice_get_past}
use Rattle.sm_shapes.specs.TableView.{member_data}
use Rattle.sm_shapes.proofs.FieldPlaces.{at_least}
use Rattle.sm_excerpts.proofs.copies.row_at.Goals as goal

pub returns-in-Some : goal.returns-in-Some
returns-in-Some c =
    let rows = c.args.rows.now in
    let k = c.args.member in
    let small = (Decides-ltb k (length rows)).0 (sym c.in-Some.ensures.lookup.0) in
    let there : slice_get rows k ≡ Some c.in-Some.row.now =
    slice_get-get_or rows k c.in-Some.row.now small ∙ ap (λ row. Some row) (sym c.in-Some.ensures.lookup.1) in
    slice_get-map member_data rows k ∙ ap (option_map member_data) there

pub returns-in-None : goal.returns-in-None
returns-in-None c =
    let rows = c.args.rows.now in
    let k = c.args.member in
    slice_get-map member_data rows k
    ∙ ap (option_map member_data) (slice_get_past rows k (at_least k (length rows) (sym c.in-None.ensures.lookup.0)))
