pub mod PlacesBound
pub mod BodyParts
pub mod RestMessages
