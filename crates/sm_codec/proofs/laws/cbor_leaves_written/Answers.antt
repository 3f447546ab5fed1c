use Rattle.sm_codec.proofs.CborWrites.{cbor_writes}
use Rattle.sm_codec.proofs.laws.cbor_leaves_written.Goals as goal

pub returns : goal.returns
returns c = cbor_writes
