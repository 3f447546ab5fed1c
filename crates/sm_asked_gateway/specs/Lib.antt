pub mod GatewayWords
pub mod GatewayView
pub mod GatewayStages
pub mod GatewayAnswers
pub mod MakesGateway
pub mod Laws
pub use Rattle.sm_asked_service.specs.asked
pub use Rattle.sm_asked_service.specs as asked_service
pub use Rattle.sm_gateway.specs as gateway
pub use Rattle.sm_gateway.specs.rest
pub use Rattle.sm_asked_service.specs.service
