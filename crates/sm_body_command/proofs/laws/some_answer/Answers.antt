use Rattle.sm_body_command.proofs.SomeBody.{body_answered}
use Rattle.sm_body_command.proofs.laws.some_answer.Goals as goal

pub returns : goal.returns
returns c = λ model shape near far t folder input all there none.
    body_answered c.some_text_answer.ensures c.some_table.ensures c.some_load.ensures.files c.sound_models.ensures.shapes t folder input all
    model shape near far there none
