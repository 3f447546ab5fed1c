use Rattle.sm_service.proofs.ServableServices.{servable_ready}
use Rattle.sm_service.proofs.laws.servable_where_ready.Goals as goal

pub returns : goal.returns
returns c = servable_ready
