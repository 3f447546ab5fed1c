use Rattle.std.proofs.Common.{Ok}
use Rattle.sm_tree.proofs.OneAnswer.{one_answer}
use Rattle.sm_json.specs.JsonText.{json_syntax}
use Rattle.sm_json.specs.Written.{written}
use Rattle.sm_json.proofs.OneTree.{one_tree}
use Rattle.sm_json.proofs.WrittenTrees.{text_of_tree}
use Rattle.sm_json.proofs.laws.written_is_read.Goals as goal

pub returns : goal.returns
returns c = λ n json few.
    ((text_of_tree n json, few), λ a comes. one_answer json_syntax one_tree (written n) a (Ok n) comes (text_of_tree n json, few))
