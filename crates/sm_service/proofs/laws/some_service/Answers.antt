use Rattle.sm_service.proofs.SomeServices.{some_service}
use Rattle.sm_service.proofs.laws.some_service.Goals as goal

pub returns : goal.returns
returns c = some_service
