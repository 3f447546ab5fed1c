use Rattle.sm_http.proofs.WrittenRead.{written_is_read}
use Rattle.sm_http.proofs.laws.written_is_read.Goals as goal

pub returns : goal.returns
returns c = written_is_read
