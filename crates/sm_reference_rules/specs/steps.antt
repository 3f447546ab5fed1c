pub mod Finding
pub mod Missing
pub mod References
pub mod Silent
pub mod Targets
pub mod Using
