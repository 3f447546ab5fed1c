pub mod GatewayData
pub mod RefusalAnswers
pub mod GatewayTurns
pub mod Answers
pub mod Laws
pub mod GatewayView
pub mod steps
pub use Rattle.sm_protocols.specs.rest
