pub mod WrittenParts
pub mod CarriedParts
pub mod Restrictions
pub mod PartSpots
pub mod steps
pub use Rattle.sm_bind.specs as bind
pub use Rattle.sm_messages.specs as messages
pub use Rattle.sm_messages.specs.service
