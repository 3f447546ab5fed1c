use Rattle.sm_select.proofs.OneAnswer.{one_selector}
use Rattle.sm_select.proofs.laws.one_selector.Goals as goal

pub returns : goal.returns
returns c = one_selector
