use Rattle.sm_codec.proofs.JsonWrites.{node_writes}
use Rattle.sm_codec.proofs.laws.node_leaves_written.Goals as goal

pub returns : goal.returns
returns c = node_writes
