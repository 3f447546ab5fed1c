use Rattle.sm_codec.proofs.NodeLaws.{node_laws}
use Rattle.sm_codec.proofs.node_leaves.NodeLeavesLeaves.laws.Goals as goal

pub returns : goal.returns
returns c = node_laws c.args.self.now.raw_blobs
