use Rattle.sm_json.proofs.WrittenStrings.{text_spelt}
use Rattle.sm_json.proofs.laws.written_text_spells.Goals as goal

pub returns : goal.returns
returns c = text_spelt
