use Rattle.sm_service.proofs.SomeServices.{service_where_none_fails}
use Rattle.sm_service.proofs.laws.service_where_none_fails.Goals as goal

pub returns : goal.returns
returns c = service_where_none_fails
