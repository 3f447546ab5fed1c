use Rattle.sm_accepted.proofs.ReadyGraphs.{sound_ready}
use Rattle.sm_accepted.proofs.laws.sound_where_ready.Goals as goal

pub returns : goal.returns
returns c = sound_ready
