use Rattle.sm_transformed.proofs.AcceptedGraphs.{may_change}
use Rattle.sm_transformed.proofs.laws.accepted_may_change.Goals as goal

pub returns : goal.returns
returns c = may_change
