pub mod BodySteps
