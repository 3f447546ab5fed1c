use Rattle.sm_part_laws.proofs.PayloadsAgain.{raw_blob_again}
use Rattle.sm_part_laws.proofs.raw_blob_read.Goals as goal

pub returns : goal.returns
returns c = raw_blob_again
