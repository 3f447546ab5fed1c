use Rattle.sm_shapes.proofs.ValueOrders.{equal_is_same}
use Rattle.sm_shapes.proofs.laws.equal_is_same.Goals as goal

pub returns : goal.returns
returns c = equal_is_same
