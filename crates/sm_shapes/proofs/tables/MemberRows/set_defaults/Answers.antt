use Rattle.std.proofs.Common.{◌≡◌, [], length, ap, arith}
use Rattle.std.proofs.lemmas.Grind.{common_steps}
use Rattle.std.specs.Vec.Iter.{into_iter_items}
use Rattle.sm_shapes.specs.DefaultPuts.{defaults_view, with_default, with_defaults}
use Rattle.sm_shapes.specs.TableView.{member_data, member_rows}
use Rattle.sm_shapes.proofs.MembersPut.{put_back}
use Rattle.sm_shapes.proofs.tables.MemberRows.set_defaults.Goals as goal

pub returns-in-None : goal.returns-in-None
returns-in-None c =
    let turn = c.loop-row in
    let long : length turn.row-items ≡ c.args.self.now.rows.len = grind (arith, common_steps) in
    let none : into_iter_items turn.others ≡ [] = grind (arith, common_steps) in
    put_back with_default member_data c.args.self.now.rows turn.row-index turn.row-items c.row-item.result
    (defaults_view (into_iter_items turn.others)) (with_defaults (member_rows c.args.self.now) (defaults_view c.args.defaults.items)) long
    (ap defaults_view none) turn.invariant
