use Rattle.sm_idl.proofs.OnePlace.{one_place}
use Rattle.sm_idl.proofs.laws.one_place.Goals as goal

pub returns : goal.returns
returns c = one_place
