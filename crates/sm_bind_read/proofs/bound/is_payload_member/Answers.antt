use Rattle.std.proofs.Common.{sym, ◌∙◌}
use Rattle.sm_shapes.specs.TableData.{binding_at}
use Rattle.sm_shapes.specs.TableView.{table_data}
use Rattle.sm_bind.specs.BindingsView.{bound_side}
use Rattle.sm_bind_read.proofs.BoundStands.{payload_counts}
use Rattle.sm_bind_read.proofs.bound.is_payload_member.Goals as goal

pub returns : goal.returns
returns c =
    c.is_payload_at.ensures
    ∙ sym (payload_counts (bound_side c.args.place.now.side) (binding_at (table_data c.args.place.now.table.now) c.args.member))
