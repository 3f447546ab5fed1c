pub mod TransformForm
pub mod Transform
pub mod steps
