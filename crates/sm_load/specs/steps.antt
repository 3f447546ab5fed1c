pub mod Naming
pub mod Passes
pub mod Sharing
pub mod Stages
pub mod Suppressing
