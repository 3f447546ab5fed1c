pub mod Forms
pub mod Kept
pub mod ProtocolBodies
pub use Rattle.sm_awsjson.specs.messages
pub use Rattle.sm_rest_laws.specs.rest
pub use Rattle.sm_awsjson.specs.service
