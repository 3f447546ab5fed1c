pub mod FileSteps
pub mod LoadSteps
