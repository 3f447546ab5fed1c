use Rattle.sm_shapes.specs.ValueView.{val_of}
use Rattle.sm_shapes.proofs.ValueOrders.{told_same}
use Rattle.sm_shapes.proofs.values.Value.is_same.Goals as goal

pub returns : goal.returns
returns c = told_same (val_of c.args.self.now) (val_of c.args.other.now) c.order_of.result c.is_eq.result c.order_of.ensures c.is_eq.ensures
