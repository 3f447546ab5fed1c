pub mod ProtocolWords
pub mod BehindModels
pub mod ServicesMade
mod ServicesNamed
mod ServicesCompiled
mod ServicesLoaded
pub mod OneServiceAsked
pub mod SomeServiceAsked
pub mod ServiceComes
pub use Rattle.sm_asked_shape.proofs.asked
