pub mod Printing
pub mod AskedEnds
pub use Rattle.sm_asked.specs as asked
pub use Rattle.sm_asked.specs.load
