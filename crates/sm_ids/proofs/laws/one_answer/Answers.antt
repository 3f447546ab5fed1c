use Rattle.sm_ids.proofs.IdAnswers.{one_answer}
use Rattle.sm_ids.proofs.laws.one_answer.Goals as goal

pub returns : goal.returns
returns c = one_answer
