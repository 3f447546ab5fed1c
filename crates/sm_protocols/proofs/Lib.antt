mod EachForm
mod HeadsBegun
mod KeptRest
pub mod ProtocolsServe
mod ProtocolsTaken
mod SidesTold
pub use Rattle.sm_awsjson.proofs.messages
