pub mod TransformSteps
