use Rattle.sm_asked_gateway.proofs.SomeGatewayAsked.{some_gateway}
use Rattle.sm_asked_gateway.proofs.laws.some_gateway.Goals as goal

pub returns : goal.returns
returns c = some_gateway c.some_service.ensures c.some_load.ensures.files c.sound_models.ensures.services
