pub mod Cuts
pub mod HeaderLists
pub mod Targets
pub mod Texts
pub mod Laws
pub mod steps
