pub mod WrittenLabels
pub mod FoundParts
pub mod BoundRight
pub mod Laws
pub use Rattle.sm_bind_read.specs.bind
pub use Rattle.sm_bind_read.specs as bind_read
pub use Rattle.sm_bind_write.specs as bind_write
pub use Rattle.sm_bind_read.specs.messages
pub use Rattle.sm_part_laws.specs as part_laws
pub use Rattle.sm_bind_read.specs.service
