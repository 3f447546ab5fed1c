use Rattle.sm_idl.proofs.IdlAnswers.{some_answer}
use Rattle.sm_idl.proofs.laws.some_answer.Goals as goal

pub returns : goal.returns
returns c = some_answer
