use Rattle.sm_service.proofs.OneServices.{one_service}
use Rattle.sm_service.proofs.laws.one_service.Goals as goal

pub returns : goal.returns
returns c = one_service
