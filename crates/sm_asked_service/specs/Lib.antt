pub mod ServiceWords
pub mod ServiceStages
pub mod ServiceAnswers
pub mod LoadsService
pub mod steps
pub use Rattle.sm_asked_shape.specs.asked
pub use Rattle.sm_asked_shape.specs.load
pub use Rattle.sm_service.specs as service
