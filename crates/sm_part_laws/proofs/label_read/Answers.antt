use Rattle.sm_part_laws.proofs.QueriesAgain.{label_again}
use Rattle.sm_part_laws.proofs.label_read.Goals as goal

pub returns : goal.returns
returns c = label_again
