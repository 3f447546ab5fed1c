use Rattle.sm_select.proofs.OneAnswer.{one_answer}
use Rattle.sm_select.proofs.laws.one_answer.Goals as goal

pub returns : goal.returns
returns c = one_answer
