use Rattle.sm_accepted.proofs.ReadyGraphs.{ready_graph}
use Rattle.sm_accepted.proofs.laws.ready_where_none_fails.Goals as goal

pub returns : goal.returns
returns c = ready_graph
