use Rattle.sm_time.proofs.OneAnswer.{written_reads_back}
use Rattle.sm_time.proofs.laws.written_reads_back.Goals as goal

pub returns : goal.returns
returns c = written_reads_back
