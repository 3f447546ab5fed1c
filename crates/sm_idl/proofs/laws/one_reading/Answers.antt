use Rattle.sm_idl.proofs.OneFile.{one_reading}
use Rattle.sm_idl.proofs.laws.one_reading.Goals as goal

pub returns : goal.returns
returns c = one_reading
