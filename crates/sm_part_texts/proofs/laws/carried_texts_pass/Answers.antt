use Rattle.sm_part_texts.proofs.OtherTexts.{carried_pass}
use Rattle.sm_part_texts.proofs.laws.carried_texts_pass.Goals as goal

pub returns : goal.returns
returns c = carried_pass
