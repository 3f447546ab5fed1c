use Rattle.sm_part_laws.proofs.QueriesAgain.{query_again}
use Rattle.sm_part_laws.proofs.query_read.Goals as goal

pub returns : goal.returns
returns c = query_again
