use Rattle.sm_tree.proofs.OneAnswer.{one_answer}
use Rattle.sm_json.specs.JsonText.{json_syntax}
use Rattle.sm_json.proofs.OneTree.{one_tree}
use Rattle.sm_json.proofs.laws.one_answer.Goals as goal

pub returns : goal.returns
returns c = one_answer json_syntax one_tree
