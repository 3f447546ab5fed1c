use Rattle.sm_part_laws.proofs.PayloadsAgain.{raw_text_again}
use Rattle.sm_part_laws.proofs.raw_text_read.Goals as goal

pub returns : goal.returns
returns c = raw_text_again
