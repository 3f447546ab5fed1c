pub mod Counts
pub mod Look
pub mod Pieces
pub mod Told
