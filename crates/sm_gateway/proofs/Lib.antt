mod OneCrossing
mod ValuesRead
mod ValuesKept
mod GatewayLaws
mod HeadsTowards
mod RestrictionsMade
mod RefusalsSaid
mod MessagesBegun
mod MessagesFinished
mod ValuesCarried
mod MessagesCrossed
mod MessagesRead
mod SessionsAlike
pub use Rattle.sm_protocols.proofs as protocols
