use Rattle.std.proofs.Common.{ℕ, ◌<◌}
use Rattle.sm_shapes.specs.TableView.{table_data}
use Rattle.codec_bodies.specs.Checked.{MemberInOrder}
use Rattle.codec_bodies.proofs.order.are_members_in_order.Given as goal

abbrev pub invariant-loop-place : goal.invariant-loop-place
invariant-loop-place l = (k : ℕ) → k < l.place → MemberInOrder (table_data l.table) k
