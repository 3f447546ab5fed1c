use Rattle.sm_part_laws.proofs.PrefixesAgain.{prefixed_again}
use Rattle.sm_part_laws.proofs.prefixed_read.Goals as goal

pub returns : goal.returns
returns c = prefixed_again c.carried_texts_pass.ensures
