-- Files that are there, and a store, come to some answer before a gateway, or to that gateway.
use Rattle.sm_asked_service.specs.load.Laws.{ReadyModels, SomeLoad}
use Rattle.sm_asked_service.specs.service.Laws.{SomeService}
use Rattle.sm_asked_service.proofs.SomeServiceAsked.{service_answered}
use Rattle.sm_asked_gateway.specs.Laws.{SomeGateway}

pub some_gateway : SomeService → SomeLoad → ReadyModels → SomeGateway
some_gateway services loads ready w t folder input all there none unmade =
    service_answered services loads ready t folder all.files w.models w.service there none unmade
