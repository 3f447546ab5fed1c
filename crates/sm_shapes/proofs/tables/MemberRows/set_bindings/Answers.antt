use Rattle.std.proofs.Common.{◌≡◌, [], length, ap, arith}
use Rattle.std.proofs.lemmas.Grind.{common_steps}
use Rattle.std.specs.Vec.Iter.{into_iter_items}
use Rattle.sm_shapes.specs.BindingPuts.{bindings_view, with_binding, with_bindings}
use Rattle.sm_shapes.specs.TableView.{member_data, member_rows}
use Rattle.sm_shapes.proofs.MembersPut.{put_back}
use Rattle.sm_shapes.proofs.tables.MemberRows.set_bindings.Goals as goal

pub returns-in-None : goal.returns-in-None
returns-in-None c =
    let turn = c.loop-row in
    let long : length turn.row-items ≡ c.args.self.now.rows.len = grind (arith, common_steps) in
    let none : into_iter_items turn.others ≡ [] = grind (arith, common_steps) in
    put_back with_binding member_data c.args.self.now.rows turn.row-index turn.row-items c.row-item.result
    (bindings_view (into_iter_items turn.others)) (with_bindings (member_rows c.args.self.now) (bindings_view c.args.bindings.items)) long
    (ap bindings_view none) turn.invariant
