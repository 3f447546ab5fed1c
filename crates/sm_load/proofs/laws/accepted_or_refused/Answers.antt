use Rattle.sm_load.proofs.OneModelLoaded.{one_accepted, accepted_refused}
use Rattle.sm_load.proofs.laws.accepted_or_refused.Goals as goal

pub returns : goal.returns
returns c = record { graph = one_accepted; apart = accepted_refused }
