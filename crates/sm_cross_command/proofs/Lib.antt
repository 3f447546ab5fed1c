pub mod CrossForms
mod SessionsOver
mod CrossOpened
pub mod CrossReaches
pub mod OneCross
mod SomeCross
mod CrossEnds
pub use Rattle.sm_asked_ends.proofs as asked_ends
