pub mod Limits
pub mod Lines
pub mod IdlLines
pub mod Outside
pub mod Answer
pub mod Stages
pub mod Words
pub mod ModelFiles
pub mod CommandAsked
pub mod AskedLaws
pub mod Comes
pub mod Loading
pub mod steps
pub use Rattle.sm_load.specs as load
