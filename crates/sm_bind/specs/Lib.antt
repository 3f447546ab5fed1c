pub mod Roles
pub mod PartsData
pub mod Documents
pub mod BindingsView
pub mod BoundView
pub mod steps
pub use Rattle.sm_service.specs as service
