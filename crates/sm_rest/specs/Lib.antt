pub mod RestServable
pub mod RestGoals
pub mod WrittenRest
pub mod RestForm
pub mod RestOf
pub mod Laws
pub use Rattle.sm_bind_read.specs.bind
pub use Rattle.sm_bind_bodies.specs as bind_bodies
pub use Rattle.sm_bind_read.specs as bind_read
pub use Rattle.sm_bind_bodies.specs.bind_write
pub use Rattle.sm_bind_read.specs.messages
pub use Rattle.sm_rest_heads.specs as rest_heads
pub use Rattle.sm_bind_read.specs.service
