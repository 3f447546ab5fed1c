use Rattle.sm_codec.proofs.CborLaws as proof
use Rattle.sm_codec.proofs.laws.cbor_leaves.Goals as goal

pub returns : goal.returns
returns c = proof.cbor_laws
