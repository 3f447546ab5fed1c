use Rattle.std.proofs.Common.{◌≡◌, map}
use Rattle.std.specs.Vec.Iter.{into_iter_items}
use Rattle.sm_shapes.specs.TableView.{shape_data}
use Rattle.sm_service.specs.steps.BindingsTold.{put_rows, with_shape_media}
use Rattle.sm_service.proofs.RowsTold.{put_up_to}
use Rattle.sm_service.proofs.bound_table.set_shape_media.Given as goal

abbrev pub invariant-loop-row : goal.invariant-loop-row
invariant-loop-row l =
    put_up_to with_shape_media shape_data l.row-index l.row-items (into_iter_items l.others)
    ≡ put_rows with_shape_media (map shape_data l.fn.rows.items) l.fn.media.items
