pub mod AwsForm
pub mod AwsWritten
pub mod Targets
pub mod AwsBodies
pub use Rattle.sm_messages.proofs as messages
