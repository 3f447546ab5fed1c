use Rattle.sm_lex.proofs.OneReading.{one_reading}
use Rattle.sm_lex.proofs.laws.one_reading.Goals as goal

pub returns : goal.returns
returns c = one_reading
