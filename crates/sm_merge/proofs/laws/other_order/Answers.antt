use Rattle.sm_merge.proofs.OtherOrder as orders
use Rattle.sm_merge.proofs.laws.other_order.Goals as goal

pub returns : goal.returns
returns c = orders.other_order
