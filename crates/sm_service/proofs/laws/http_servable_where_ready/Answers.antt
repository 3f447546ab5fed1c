use Rattle.sm_service.proofs.HttpServes.{http_servable}
use Rattle.sm_service.proofs.laws.http_servable_where_ready.Goals as goal

pub returns : goal.returns
returns c = http_servable
