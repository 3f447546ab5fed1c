use Rattle.sm_load.proofs.ModelsSound.{model_ready, model_sound}
use Rattle.sm_load.proofs.laws.sound_models.Goals as goal

pub returns-clause-shapes : goal.returns-clause-shapes
returns-clause-shapes c = model_sound

pub returns-clause-services : goal.returns-clause-services
returns-clause-services c = model_ready
