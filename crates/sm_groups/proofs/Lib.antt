pub mod GroupsMade
