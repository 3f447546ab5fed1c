use Rattle.sm_model_commands.proofs.asked.OverFiles.{some_over_files}
use Rattle.sm_transform_command.specs.Transform.{TransformSays}
use Rattle.sm_transform_command.proofs.SomeTransform.{transform_answered}
use Rattle.sm_transform_command.proofs.laws.some_answer.Goals as goal

pub returns : goal.returns
returns c = λ models asked.
    some_over_files models (λ files a. TransformSays files models asked a)
    (λ folder. transform_answered c.some_load.ensures.files c.some_load.ensures.events c.some_changed.ensures
    c.accepted_may_change.ensures folder models asked)
