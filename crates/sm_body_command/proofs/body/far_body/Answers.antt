use Rattle.sm_bodies.specs.AnswerView.{text_answer}
use Rattle.sm_body_command.proofs.Bodies.{text_comes}
use Rattle.sm_body_command.proofs.body.far_body.Goals as goal

pub returns-in-Ok-clause-comes : goal.returns-in-Ok-clause-comes
returns-in-Ok-clause-comes g c = text_comes _ _ _ _ _ _ (text_answer c.in-Ok.answer) c.printed_answer.result c.in-Ok.ensures.answers
    c.printed_answer.ensures
