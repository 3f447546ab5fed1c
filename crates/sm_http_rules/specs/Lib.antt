pub mod Sides
pub mod steps
