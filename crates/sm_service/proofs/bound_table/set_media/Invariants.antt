use Rattle.std.proofs.Common.{◌≡◌, map}
use Rattle.std.specs.Vec.Iter.{into_iter_items}
use Rattle.sm_shapes.specs.TableView.{member_data}
use Rattle.sm_service.specs.steps.BindingsTold.{put_rows, with_media}
use Rattle.sm_service.proofs.RowsTold.{put_up_to}
use Rattle.sm_service.proofs.bound_table.set_media.Given as goal

abbrev pub invariant-loop-row : goal.invariant-loop-row
invariant-loop-row l =
    put_up_to with_media member_data l.row-index l.row-items (into_iter_items l.others)
    ≡ put_rows with_media (map member_data l.fn.rows.items) l.fn.media.items
