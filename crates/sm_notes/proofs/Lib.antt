mod NotesFound
pub mod NotesNumbered
