use Rattle.sm_time.proofs.OneAnswer.{one_answer}
use Rattle.sm_time.proofs.laws.one_answer.Goals as goal

pub returns : goal.returns
returns c = one_answer
