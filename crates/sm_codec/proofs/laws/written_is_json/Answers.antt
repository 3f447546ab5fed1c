use Rattle.sm_codec.proofs.WrittenForms.{written_is_json}
use Rattle.sm_codec.proofs.laws.written_is_json.Goals as goal

pub returns : goal.returns
returns c = written_is_json
