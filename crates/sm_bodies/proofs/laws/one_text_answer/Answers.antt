use Rattle.sm_bodies.proofs.TextAnswered.{one_text_answer}
use Rattle.sm_bodies.proofs.laws.one_text_answer.Goals as goal

pub returns : goal.returns
returns c = one_text_answer c.one_answer.ensures
