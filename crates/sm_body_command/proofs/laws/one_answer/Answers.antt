use Rattle.sm_asked_shape.proofs.asked.ToldAll.{all_told}
use Rattle.sm_body_command.proofs.OneBody.{body_same}
use Rattle.sm_body_command.proofs.laws.one_answer.Goals as goal

pub returns : goal.returns
returns c = λ model shape near far t folder input x y all h i.
    body_same c.one_text_answer.ensures t (all_told t folder input all) model shape near far x y h i
