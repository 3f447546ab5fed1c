use Rattle.sm_tree.proofs.SomeAnswer.{some_answer}
use Rattle.sm_json.specs.JsonText.{json_syntax}
use Rattle.sm_json.proofs.WrittenTrees.{null_begins}
use Rattle.sm_json.proofs.laws.some_answer.Goals as goal

pub returns : goal.returns
returns c = some_answer json_syntax null_begins
