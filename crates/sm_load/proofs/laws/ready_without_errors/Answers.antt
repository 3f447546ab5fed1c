use Rattle.sm_load.proofs.NoErrors.{ready_without_errors}
use Rattle.sm_load.proofs.laws.ready_without_errors.Goals as goal

pub returns : goal.returns
returns c = ready_without_errors
