pub mod NotesSaid
pub mod TableShapes
