pub mod Matching
pub mod Passing
pub mod Writing
