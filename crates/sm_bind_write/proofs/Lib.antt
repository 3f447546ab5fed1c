mod FieldNames
mod KeySearch
mod KeysFree
pub mod MetFields
mod MissedMembers
pub mod ReadyFields
mod FirstPaths
mod Payloads
mod ErrorsRefused
mod PartsHad
pub use Rattle.sm_bind.proofs as bind
