use Rattle.std.proofs.Common.{ℕ, ◌<◌}
use Rattle.sm_shapes.specs.TableView.{table_data}
use Rattle.codec_bodies.specs.Checked.{ShapeInOrder}
use Rattle.codec_bodies.proofs.order.are_shapes_in_order.Given as goal

abbrev pub invariant-loop-shape : goal.invariant-loop-shape
invariant-loop-shape l = (s : ℕ) → s < l.shape → ShapeInOrder (table_data l.table) s
