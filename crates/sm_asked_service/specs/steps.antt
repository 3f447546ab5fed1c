pub mod ServiceSteps
