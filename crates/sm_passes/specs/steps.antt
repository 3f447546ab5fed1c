pub mod Apart
pub mod Groups
