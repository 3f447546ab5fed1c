use Rattle.sm_parts.proofs.WrittenQueries.{pairs_again}
use Rattle.sm_parts.proofs.laws.written_pairs_read.Goals as goal

pub returns : goal.returns
returns c = pairs_again
