pub mod Forms
pub mod SelectLines
pub mod Check
pub mod Convert
pub mod Select
pub mod steps
pub use Rattle.sm_asked.specs as asked
