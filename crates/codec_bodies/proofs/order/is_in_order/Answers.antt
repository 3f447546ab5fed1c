use Rattle.std.proofs.Common.{ℕ, ◌<◌, refl}
use Rattle.std.specs.Prelude.{IsTrue}
use Rattle.sm_shapes.specs.InOrder.{Shaped}
use Rattle.sm_shapes.specs.TableData.{shape_count}
use Rattle.sm_shapes.specs.TableView.{table_data}
use Rattle.sm_shapes.specs.DefaultPuts.{HasNoDefault}
use Rattle.codec_bodies.specs.Checked.{ShapeInOrder}
use Rattle.codec_bodies.proofs.InOrderParts.{shaped_by, none_set}
use Rattle.codec_bodies.proofs.Onward.{if_ok_so}
use Rattle.codec_bodies.proofs.order.is_in_order.Goals as goal

pub returns-clause-shaped : goal.returns-clause-shaped
returns-clause-shaped c =
    let t = table_data c.args.table.now in
    if_ok_so (λ good. IsTrue good → (s : ℕ) → s < shape_count t → ShapeInOrder t s)
    (λ good. IsTrue good → Shaped t) c.are_shapes_in_order.result
    (λ good shapes true. shaped_by t (c.if-not-are_members_in_order.ensures refl) (shapes true)) c.are_shapes_in_order.ensures

pub returns-clause-unset : goal.returns-clause-unset
returns-clause-unset c =
    let t = table_data c.args.table.now in
    if_ok_so (λ good. IsTrue good → (s : ℕ) → s < shape_count t → ShapeInOrder t s) (λ good. IsTrue good → HasNoDefault t)
    c.are_shapes_in_order.result (λ good shapes true. none_set t (c.if-not-are_members_in_order.ensures refl)) c.are_shapes_in_order.ensures
