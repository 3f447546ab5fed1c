pub mod Parts
pub mod PartFaults
pub mod BoundGoals
pub mod Outcomes
pub mod steps
pub use Rattle.sm_bind.specs as bind
pub use Rattle.sm_messages.specs as messages
pub use Rattle.sm_messages.specs.service
