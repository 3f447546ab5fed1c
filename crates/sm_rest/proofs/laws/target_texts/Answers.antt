use Rattle.sm_rest.proofs.TargetTexts.{target_texts}
use Rattle.sm_rest.proofs.laws.target_texts.Goals as goal

pub returns : goal.returns
returns c = target_texts
