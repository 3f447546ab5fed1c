use Rattle.sm_codec.proofs.CborLaws.{cbor_laws}
use Rattle.sm_codec.proofs.cbor_leaves.CborLeavesLeaves.laws.Goals as goal

pub returns : goal.returns
returns c = cbor_laws
