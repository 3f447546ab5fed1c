use Rattle.sm_json.proofs.OneTree.{one_tree}
use Rattle.sm_json.proofs.laws.one_reading.Goals as goal

pub returns : goal.returns
returns c = one_tree
