use Rattle.std.proofs.Common.{◌≡◌, map}
use Rattle.std.specs.Vec.Iter.{into_iter_items}
use Rattle.sm_shapes.specs.BindingPuts.{bindings_view, with_binding, with_bindings}
use Rattle.sm_shapes.specs.TableView.{member_data}
use Rattle.sm_shapes.proofs.MembersPut.{put_up_to}
use Rattle.sm_shapes.proofs.tables.MemberRows.set_bindings.Given as goal

abbrev pub invariant-loop-row : goal.invariant-loop-row
invariant-loop-row l =
    put_up_to with_binding member_data l.row-index l.row-items (bindings_view (into_iter_items l.others))
    ≡ with_bindings (map member_data l.fn.self.rows.items) (bindings_view l.fn.bindings.items)
