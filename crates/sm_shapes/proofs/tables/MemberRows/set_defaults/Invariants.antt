use Rattle.std.proofs.Common.{◌≡◌, map}
use Rattle.std.specs.Vec.Iter.{into_iter_items}
use Rattle.sm_shapes.specs.DefaultPuts.{defaults_view, with_default, with_defaults}
use Rattle.sm_shapes.specs.TableView.{member_data}
use Rattle.sm_shapes.proofs.MembersPut.{put_up_to}
use Rattle.sm_shapes.proofs.tables.MemberRows.set_defaults.Given as goal

abbrev pub invariant-loop-row : goal.invariant-loop-row
invariant-loop-row l =
    put_up_to with_default member_data l.row-index l.row-items (defaults_view (into_iter_items l.others))
    ≡ with_defaults (map member_data l.fn.self.rows.items) (defaults_view l.fn.defaults.items)
