use Rattle.sm_codec.proofs.JsonLaws as proof
use Rattle.sm_codec.proofs.laws.json_leaves.Goals as goal

pub returns : goal.returns
returns c = proof.json_laws
