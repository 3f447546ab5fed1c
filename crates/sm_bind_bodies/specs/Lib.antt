pub mod WrittenBodies
pub use Rattle.sm_bind_write.specs as bind_write
