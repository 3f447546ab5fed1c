pub mod Sources
pub mod Coming
pub mod Bodies
pub mod Taken
