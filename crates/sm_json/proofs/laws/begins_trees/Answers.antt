use Rattle.sm_json.proofs.PrefixRuns.{begins_trees}
use Rattle.sm_json.proofs.laws.begins_trees.Goals as goal

pub returns : goal.returns
returns c = begins_trees
