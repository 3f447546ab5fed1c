use Rattle.sm_load.proofs.NoErrors.{sound_without_errors}
use Rattle.sm_load.proofs.laws.sound_without_errors.Goals as goal

pub returns : goal.returns
returns c = sound_without_errors
