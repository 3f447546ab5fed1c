pub mod RawViews
pub mod GraphFacts
pub mod MapFacts
pub mod RawWeight
pub mod Searching
mod UsedIds
mod Entries
mod TargetsKept
pub mod Moved
pub mod Rises
pub mod OneRising
pub mod Sorting
mod MemberIds
mod Appending
mod Places
mod MemberBlocks
mod ShapeBlocks
mod BlockOrder
mod MoreRows
mod MadeGraphs
pub mod Linking
pub mod LinkNumbers
pub mod LinkFacts
pub mod LinkedEntries
mod LinkedGraphs
pub mod Worklist
pub mod NumberedIds
pub mod FieldsAmong
pub mod GivenEntries
