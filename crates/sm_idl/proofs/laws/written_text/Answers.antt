use Rattle.sm_idl.proofs.FileWritten.{written_is_file}
use Rattle.sm_idl.proofs.laws.written_text.Goals as goal

pub returns : goal.returns
returns c = written_is_file
