pub mod Runs
pub mod CharacterBytes
pub mod CharacterShapes
pub mod Characters
