mod GatewaysMade
pub mod GatewayForms
pub mod LoadedServices
mod OneGatewayAsked
mod SomeGatewayAsked
pub use Rattle.sm_asked_service.proofs as asked_service
