use Rattle.sm_lex.proofs.OneReading.{spelled_or_refused}
use Rattle.sm_lex.proofs.laws.spelled_or_refused.Goals as goal

pub returns : goal.returns
returns c = spelled_or_refused
