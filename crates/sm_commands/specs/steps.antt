pub mod CarrySteps
pub mod FormSteps
