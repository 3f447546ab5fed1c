use Rattle.sm_idl.proofs.IdlAnswers.{said_or_refused}
use Rattle.sm_idl.proofs.laws.said_or_refused.Goals as goal

pub returns : goal.returns
returns c = said_or_refused
