use Rattle.sm_select.proofs.SomePicked.{one_picked}
use Rattle.sm_select.proofs.laws.one_picked.Goals as goal

-- src/laws.rt:26:1
pub returns : goal.returns
returns c = one_picked
