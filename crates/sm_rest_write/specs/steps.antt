pub mod ToldFields
pub mod Bodies
pub mod Outlines
