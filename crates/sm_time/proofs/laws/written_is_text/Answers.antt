use Rattle.sm_time.proofs.WrittenTexts.{written_is_text}
use Rattle.sm_time.proofs.laws.written_is_text.Goals as goal

pub returns : goal.returns
returns c = written_is_text
