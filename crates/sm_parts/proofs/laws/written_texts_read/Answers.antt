use Rattle.sm_parts.proofs.WrittenLists.{texts_read}
use Rattle.sm_parts.proofs.laws.written_texts_read.Goals as goal

pub returns : goal.returns
returns c = texts_read
