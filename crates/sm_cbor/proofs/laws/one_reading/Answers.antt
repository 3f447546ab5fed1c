use Rattle.sm_cbor.proofs.OneItem.{one_reading}
use Rattle.sm_cbor.proofs.laws.one_reading.Goals as goal

pub returns : goal.returns
returns c = one_reading
