use Rattle.sm_service.proofs.FilledServices.{services_stay}
use Rattle.sm_service.proofs.laws.stays_servable.Goals as goal

pub returns : goal.returns
returns c = services_stay
