use Rattle.sm_ast.proofs.JsonGiven as given
use Rattle.sm_ast.proofs.laws.written_is_json.Goals as goal

pub returns : goal.returns
returns c = given.written_is_json
