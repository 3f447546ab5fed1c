use Rattle.std.proofs.Common.{◌≡◌, ◌∙◌, ◌-◌, length, sym, ap}
use Rattle.std.specs.Prelude.{Some, slice_get}
use Rattle.std.proofs.lemmas.Bool.Decides.{Decides-ltb}
use Rattle.std.proofs.lemmas.Option.{slice_get-get_or}
use Rattle.sm_shapes.proofs.PatternNumbers.{one_text}
use Rattle.sm_shapes.proofs.pattern_rows.text_at_place.Goals as goal

pub returns-in-Some-get : goal.returns-in-Some-get
returns-in-Some-get c = λ u one.
    let rows = c.args.rows.now in
    let i = c.args.number - c.in-Some.first.now.0 in
    let small = (Decides-ltb i (length rows)).0 (sym c.in-Some-get.ensures.lookup.0) in
    let at : slice_get rows i ≡ Some c.in-Some-get.row.now =
    slice_get-get_or rows i c.in-Some-get.row.now small ∙ ap (λ row. Some row) (sym c.in-Some-get.ensures.lookup.1) in
    let same : c.in-Some-get.row.now.0 ≡ c.args.number = c.if-row-number.true in
    c.as_str.ensures.bytes ∙ one_text c.args.number rows i c.in-Some-get.row.now u at same one
