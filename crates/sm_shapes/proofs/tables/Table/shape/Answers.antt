use Rattle.std.proofs.Common.{◌≡◌, ◌<◌, length, sym, ap, ◌∙◌, subst}
use Rattle.std.specs.Prelude.{Some, slice_get}
use Rattle.std.specs.Option.{option_map}
use Rattle.std.proofs.lemmas.List.{length-map}
use Rattle.std.proofs.lemmas.Option.{slice_get-map, slice_get-get_or}
use Rattle.sm_shapes.specs.TableView.{shape_data}
use Rattle.sm_shapes.proofs.tables.Table.shape.Goals as goal

pub returns : goal.returns
returns c =
    let rows = c.args.self.now.shapes.rows.items in
    let small : c.args.shape < length rows = subst (λ n. c.args.shape < n) (length-map rows shape_data) c.requires in
    let there : slice_get rows c.args.shape ≡ Some c.index.result.now =
    slice_get-get_or rows c.args.shape c.index.result.now small ∙ ap (λ row. Some row) (sym c.index.ensures) in
    slice_get-map shape_data rows c.args.shape ∙ ap (option_map shape_data) there
