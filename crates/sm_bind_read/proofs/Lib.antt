mod KeysTaken
mod TablesExtended
mod TreePlaces
mod MembersJoined
mod DocumentComes
mod PayloadComes
mod PartsFound
mod PartsPut
mod MapRows
mod ListsStand
mod StructureFields
mod BodyGives
mod MapMembers
mod PendingTakes
mod TakenLast
mod PayloadValues
mod BoundStands
mod TextsAlone
pub use Rattle.sm_bind.proofs as bind
pub use Rattle.sm_messages.proofs as messages
pub use Rattle.sm_messages.proofs.service
