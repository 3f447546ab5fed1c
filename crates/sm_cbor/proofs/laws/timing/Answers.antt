use Rattle.sm_cbor.proofs.Timings.{times_texts}
use Rattle.sm_cbor.proofs.laws.timing.Goals as goal

pub returns : goal.returns
returns c = times_texts
