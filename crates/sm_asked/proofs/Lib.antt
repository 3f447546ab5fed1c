pub mod OverModels
pub mod Stops
pub mod LongFiles
pub mod FilesRead
pub mod Loads
pub mod OneLoad
pub mod SomeLoad
pub mod ToldAll
pub mod Answered
pub mod OverFiles
pub use Rattle.sm_load.proofs as load
