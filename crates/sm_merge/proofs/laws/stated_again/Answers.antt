use Rattle.sm_merge.proofs.RestatedEvents as restated
use Rattle.sm_merge.proofs.laws.stated_again.Goals as goal

pub returns : goal.returns
returns c = restated.stated_again_law
