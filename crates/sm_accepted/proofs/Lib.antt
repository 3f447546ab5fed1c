pub mod GivenShapes
pub mod FormedShapes
pub mod ClosedSets
mod Lists
pub mod TraitsRight
mod MembersRight
mod EnumsRight
mod NamesRight
pub mod SoundGraphs
pub mod ReadyGraphs
