pub mod Excerpts
pub mod steps
