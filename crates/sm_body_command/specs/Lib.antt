pub mod BodyWords
pub mod BodyStages
pub mod Body
pub mod steps
