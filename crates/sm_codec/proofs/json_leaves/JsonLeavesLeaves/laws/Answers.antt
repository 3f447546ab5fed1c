use Rattle.sm_codec.proofs.JsonLaws.{json_laws}
use Rattle.sm_codec.proofs.json_leaves.JsonLeavesLeaves.laws.Goals as goal

pub returns : goal.returns
returns c = json_laws c.args.self.now.json_names
