pub mod Steps
pub mod Copies
pub mod Changing
pub mod Knowing
