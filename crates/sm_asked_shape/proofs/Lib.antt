pub mod TablesMade
mod ShapesNamed
pub mod LoadedSpelled
pub mod TablesNamed
pub mod ShapesLoaded
pub mod OneShape
pub mod SomeShape
pub mod ShapeComes
pub use Rattle.sm_asked.proofs as asked
