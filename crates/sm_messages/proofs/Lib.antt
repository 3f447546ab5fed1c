pub mod Contents
pub mod HeadsJudged
pub mod OneMessage
pub mod SomeMessage
pub mod OneReplies
pub mod CrossedMessages
pub mod OperationsNamed
pub mod TreeBodies
pub mod ErrorsTold
pub mod ObjectBodies
pub mod ErrorsAt
pub mod WrittenTexts
pub mod Homes
pub mod TreeAnswered
pub mod BodiesBegun
pub use Rattle.sm_service.proofs as service
