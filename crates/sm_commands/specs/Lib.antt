pub mod Commands
pub mod Says
pub mod Run
pub mod RunLaws
pub mod steps
