pub mod Contents
pub mod Places
pub mod RestAnswers
pub mod Starting
