pub mod ServeWords
pub mod ServeView
pub mod Starts
pub mod Links
pub mod Serves
pub mod Laws
pub mod steps
