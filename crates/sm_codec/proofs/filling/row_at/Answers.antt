use Rattle.std.proofs.Common.{◌≡◌, ◌<◌, length, sym, ap, ◌∙◌, subst}
use Rattle.std.specs.Prelude.{Some, slice_get}
use Rattle.std.specs.Option.{option_map}
use Rattle.std.proofs.lemmas.List.{length-map}
use Rattle.std.proofs.lemmas.Option.{slice_get-map, slice_get-get_or}
use Rattle.sm_shapes.specs.TableView.{member_data}
use Rattle.sm_codec.proofs.filling.row_at.Goals as goal

pub returns : goal.returns
returns c =
    let rows = c.as_slice.result.now in
    let small : c.args.number < length c.as_slice.result.now =
    subst (λ n. c.args.number < n) (sym (ap length c.as_slice.ensures) ∙ length-map rows member_data) c.requires in
    let there : slice_get c.as_slice.result.now c.args.number ≡ Some c.index-as_slice-number.result =
    slice_get-get_or rows c.args.number c.index-as_slice-number.result small ∙ ap (λ row. Some row) (sym c.index-as_slice-number.is) in
    sym (ap (λ ms. slice_get ms c.args.number) c.as_slice.ensures) ∙ slice_get-map member_data rows c.args.number
    ∙ ap (option_map member_data) there
