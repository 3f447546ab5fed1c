pub mod Marks
pub mod Reading
pub mod Rest
pub mod Machine
pub mod Descent
pub mod Sinks
