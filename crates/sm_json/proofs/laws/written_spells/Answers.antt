use Rattle.sm_json.proofs.WrittenTrees.{tree_spelt}
use Rattle.sm_json.proofs.laws.written_spells.Goals as goal

pub returns : goal.returns
returns c = tree_spelt
