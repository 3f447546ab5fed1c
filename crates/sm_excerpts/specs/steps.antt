pub mod Rows
pub mod Added
