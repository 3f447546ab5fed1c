use Rattle.sm_codec.proofs.JsonWrites.{json_writes}
use Rattle.sm_codec.proofs.laws.json_leaves_written.Goals as goal

pub returns : goal.returns
returns c = json_writes
