pub mod Heads
pub mod Messages
pub mod Begun
