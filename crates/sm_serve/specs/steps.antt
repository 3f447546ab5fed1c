pub mod LinkSteps
pub mod StopStatuses
pub mod WordSteps
