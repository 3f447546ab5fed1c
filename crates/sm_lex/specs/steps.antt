pub mod LexSteps
