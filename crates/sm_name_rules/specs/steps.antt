pub mod NameTwins
pub mod Naming
pub mod Renaming
