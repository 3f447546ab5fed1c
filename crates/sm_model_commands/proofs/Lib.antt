pub mod GraphWords
pub mod MergedJson
pub mod OneCheck
pub mod OneConvert
pub mod SomeConvert
pub mod OneSelect
pub mod Checks
pub mod Converts
pub mod Selects
pub use Rattle.sm_asked.proofs as asked
