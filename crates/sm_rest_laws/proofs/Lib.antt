pub mod NoReserved
pub mod HeadsWritten
pub mod BodiesWritten
pub mod RightGoals
pub mod StatusesWritten
pub mod FoundHeads
pub mod TargetsWritten
pub mod RestForm
