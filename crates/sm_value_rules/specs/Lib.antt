pub mod Laws
pub mod Used
pub mod Marking
pub mod steps
