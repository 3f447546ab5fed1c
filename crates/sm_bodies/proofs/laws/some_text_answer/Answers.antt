use Rattle.sm_bodies.proofs.TextAnswered.{some_text_answer}
use Rattle.sm_bodies.proofs.laws.some_text_answer.Goals as goal

pub returns : goal.returns
returns c = some_text_answer c.some_answer.ensures
