use Rattle.sm_again.proofs.IdlLoads.{idl_loads}
use Rattle.sm_again.proofs.laws.idl_loads.Goals as goal

pub returns : goal.returns
returns c = idl_loads c.formed_files.ensures c.sound_without_errors.ensures
