use Rattle.sm_json.proofs.WrittenTrees.{text_of_tree}
use Rattle.sm_json.proofs.laws.written_is_text.Goals as goal

pub returns : goal.returns
returns c = text_of_tree
