pub mod Carriers
pub mod Http
pub mod Errors
pub mod Bindings
