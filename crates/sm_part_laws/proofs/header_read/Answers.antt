use Rattle.sm_part_laws.proofs.HeadersAgain.{header_again}
use Rattle.sm_part_laws.proofs.header_read.Goals as goal

pub returns : goal.returns
returns c = header_again c.written_texts_read.ensures c.carried_texts_pass.ensures
