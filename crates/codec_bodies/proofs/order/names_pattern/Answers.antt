use Rattle.std.proofs.Common.{◌≡◌, length, refl, sym, ap, ◌∙◌, subst}
use Rattle.sm_shapes.specs.TableData.{texts_numbered}
use Rattle.sm_shapes.specs.InOrder.{NamesPattern}
use Rattle.sm_shapes.specs.TableView.{table_data}
use Rattle.codec_bodies.proofs.CheckedParts.{is_one}
use Rattle.codec_bodies.proofs.InOrderParts.{names_one}
use Rattle.codec_bodies.proofs.order.names_pattern.Goals as goal

pub returns-in-Some : goal.returns-in-Some
returns-in-Some c good =
    let n = c.in-Some.number in
    let one : c.count_of.result ≡ 1 = is_one c.count_of.result good in
    subst (NamesPattern (table_data c.args.table.now)) (sym c.in-Some.is)
    (names_one (table_data c.args.table.now) n _ refl (ap (λ ps. length (texts_numbered n ps)) (sym c.as_slice.ensures)
    ∙ sym c.count_of.ensures ∙ one))
