mod NullBodies
mod BodyShapes
mod ContentsGiven
mod PlacesJoined
mod ValuesJoined
mod RequestsJudged
mod RestAnswered
pub mod RestBodies
