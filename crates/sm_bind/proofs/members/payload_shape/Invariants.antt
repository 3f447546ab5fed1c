use Rattle.std.proofs.Common.{◌≡◌, drop}
use Rattle.sm_shapes.specs.TableView.{table_data}
use Rattle.sm_bind.specs.steps.Growing.{payload_among}
use Rattle.sm_bind.proofs.members.payload_shape.Given as goal

abbrev pub invariant-loop-member : goal.invariant-loop-member
invariant-loop-member l = payload_among (table_data l.table) (drop l.member-index l.members) ≡ payload_among (table_data l.table) l.members
