use Rattle.sm_cbor.proofs.Advancing.{begins_trees}
use Rattle.sm_cbor.proofs.laws.begins_trees.Goals as goal

pub returns : goal.returns
returns c = begins_trees
