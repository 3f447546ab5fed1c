use Rattle.sm_codec.proofs.NodeLaws as proof
use Rattle.sm_codec.proofs.laws.node_leaves.Goals as goal

pub returns : goal.returns
returns c = proof.node_laws
