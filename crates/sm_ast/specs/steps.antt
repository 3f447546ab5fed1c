pub mod Checks
pub mod Saying
pub mod Writing
