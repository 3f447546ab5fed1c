pub mod TurnsOnce
pub mod SessionViews
pub mod SessionsOnce
pub mod SessionsThere
mod BodiesFed
mod BodiesRead
mod MessagesTaken
mod Playing
mod SessionRuns
mod TurnExits
mod TurnsEnded
mod BackAnswers
mod TurnSteps
mod SessionTurns
