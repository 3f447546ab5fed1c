pub mod ShapeStages
pub mod ShapeAnswers
pub mod LoadsShape
pub mod ShapeTables
pub mod OverShape
pub use Rattle.sm_asked.specs as asked
pub use Rattle.sm_asked.specs.load
