use Rattle.std.proofs.Common.{◌≡◌, [], length, map, arith}
use Rattle.std.proofs.lemmas.Grind.{common_steps}
use Rattle.std.specs.Vec.Iter.{into_iter_items}
use Rattle.sm_shapes.specs.TableView.{member_data}
use Rattle.sm_service.specs.steps.BindingsTold.{put_rows, with_media}
use Rattle.sm_service.proofs.RowsTold.{put_back}
use Rattle.sm_service.proofs.bound_table.set_media.Goals as goal

pub returns-in-None : goal.returns-in-None
returns-in-None c =
    let turn = c.loop-row in
    let long : length turn.row-items ≡ c.args.rows.now.len = grind (arith, common_steps) in
    let none : into_iter_items turn.others ≡ [] = grind (arith, common_steps) in
    put_back with_media member_data c.args.rows.now turn.row-index turn.row-items c.row-item.result (into_iter_items turn.others)
    (put_rows with_media (map member_data c.args.rows.now.items) c.args.media.items) long none turn.invariant
