pub mod AstMerges
pub mod WrittenMerges
pub mod WrittenTexts
pub mod LoadsAgain
pub use Rattle.sm_load.specs as load
