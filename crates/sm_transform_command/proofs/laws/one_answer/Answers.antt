use Rattle.sm_model_commands.proofs.asked.OverFiles.{one_over_files}
use Rattle.sm_transform_command.specs.Transform.{TransformSays}
use Rattle.sm_transform_command.proofs.OneTransform.{transform_same}
use Rattle.sm_transform_command.proofs.laws.one_answer.Goals as goal

pub returns : goal.returns
returns c = λ models asked.
    one_over_files models (λ files a. TransformSays files models asked a)
    (λ folder. transform_same c.one_changed.ensures folder models asked)
