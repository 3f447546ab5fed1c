pub mod RestRoutes
pub mod RestParts
pub mod BodyParts
pub mod steps
