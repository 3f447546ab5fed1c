-- What stands before a gateway is what stands before its service: the model files, the service and its patterns.
use Rattle.sm_asked_service.specs.asked.Answer.{Answer}
use Rattle.sm_asked_service.specs.asked.Stages.{Told}
use Rattle.sm_asked_service.specs.ServiceAnswers.{ServiceAnswers}
use Rattle.sm_asked_gateway.specs.GatewayWords.{GatewayAsked}

abbrev pub GatewayAnswers : Told → GatewayAsked → Answer → Type 0
GatewayAnswers t w a = ServiceAnswers t w.models w.service a
