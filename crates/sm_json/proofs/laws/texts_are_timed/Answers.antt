use Rattle.sm_json.proofs.Timed.{text_timed, timed_text}
use Rattle.sm_json.proofs.laws.texts_are_timed.Goals as goal

pub returns : goal.returns
returns c = record { timed = text_timed; spelt = timed_text }
