pub mod Numbered
pub mod Joined
pub mod Plain
pub mod WithNotes
