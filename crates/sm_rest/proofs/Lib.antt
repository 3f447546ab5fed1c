pub mod ReadingsFit
pub mod ChildrenFit
pub mod TextsFit
pub mod BoundFit
pub mod GoalsServed
pub mod RestReads
pub mod TargetTexts
pub use Rattle.sm_bind_read.proofs.messages
pub use Rattle.sm_rest_heads.proofs as rest_heads
