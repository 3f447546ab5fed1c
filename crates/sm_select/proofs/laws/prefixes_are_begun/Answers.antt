use Rattle.sm_select.proofs.OneAnswer.{prefixes_are_begun}
use Rattle.sm_select.proofs.laws.prefixes_are_begun.Goals as goal

pub returns : goal.returns
returns c = prefixes_are_begun
