use Rattle.sm_part_laws.proofs.PayloadsAgain.{status_again}
use Rattle.sm_part_laws.proofs.status_read.Goals as goal

pub returns : goal.returns
returns c = status_again
