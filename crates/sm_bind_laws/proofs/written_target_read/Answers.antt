use Rattle.sm_bind_laws.proofs.TargetsRead.{target_again}
use Rattle.sm_bind_laws.proofs.written_target_read.Goals as goal

pub returns : goal.returns
returns c = target_again
