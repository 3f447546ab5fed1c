use Rattle.sm_accepted.proofs.ReadyGraphs.{sound_graph}
use Rattle.sm_accepted.proofs.laws.sound_where_none_fails.Goals as goal

pub returns : goal.returns
returns c = sound_graph
