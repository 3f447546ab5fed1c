use Rattle.std.proofs.Common.{◌≡◌, ◌<◌, length, sym, ap, ◌∙◌, subst}
use Rattle.std.specs.Prelude.{Some, slice_get}
use Rattle.std.specs.Option.{option_map}
use Rattle.std.proofs.lemmas.List.{length-map}
use Rattle.std.proofs.lemmas.Option.{slice_get-map, slice_get-get_or}
use Rattle.sm_shapes.specs.TableView.{member_data}
use Rattle.sm_shapes.proofs.tables.Table.member.Goals as goal

pub returns : goal.returns
returns c =
    let rows = c.args.self.now.members.rows.items in
    let small : c.args.member < length rows = subst (λ n. c.args.member < n) (length-map rows member_data) c.requires in
    let there : slice_get rows c.args.member ≡ Some c.index.result.now =
    slice_get-get_or rows c.args.member c.index.result.now small ∙ ap (λ row. Some row) (sym c.index.ensures) in
    slice_get-map member_data rows c.args.member ∙ ap (option_map member_data) there
