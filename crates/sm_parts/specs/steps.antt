pub mod Cutting
pub mod Quoting
