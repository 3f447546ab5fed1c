pub mod CrossWords
pub mod CrossView
pub mod CrossStages
pub mod Cross
pub mod steps
pub use Rattle.sm_asked_ends.specs as asked_ends
