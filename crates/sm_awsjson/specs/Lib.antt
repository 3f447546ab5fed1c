pub mod Heads
pub mod Messages
pub mod Begun
pub use Rattle.sm_messages.specs as messages
pub use Rattle.sm_bounds.specs as bounds
pub use Rattle.sm_service.specs as service
