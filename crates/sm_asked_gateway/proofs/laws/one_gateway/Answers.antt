use Rattle.sm_asked_gateway.proofs.OneGatewayAsked.{one_gateway}
use Rattle.sm_asked_gateway.proofs.laws.one_gateway.Goals as goal

pub returns : goal.returns
returns c = one_gateway c.one_service.ensures c.sound_models.ensures.services
