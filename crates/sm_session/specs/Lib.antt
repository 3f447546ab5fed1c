pub mod OwnAnswers
pub mod Turns
pub mod Sessions
pub mod Responding
pub mod Ends
pub mod Laws
pub mod steps
