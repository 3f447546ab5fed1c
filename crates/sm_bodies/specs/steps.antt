pub mod Reading
pub mod Translating
