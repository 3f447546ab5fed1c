use Rattle.sm_idl.proofs.OnePlace.{begun_is_closed}
use Rattle.sm_idl.proofs.laws.begun_is_closed.Goals as goal

pub returns : goal.returns
returns c = begun_is_closed
