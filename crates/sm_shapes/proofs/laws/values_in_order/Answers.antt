use Rattle.sm_shapes.proofs.ValueOrders.{values_in_order}
use Rattle.sm_shapes.proofs.laws.values_in_order.Goals as goal

pub returns : goal.returns
returns c = values_in_order
