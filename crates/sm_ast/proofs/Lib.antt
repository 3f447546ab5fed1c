mod SeenNames
mod Telling
mod IdTests
mod Fields
pub mod Judged
mod JsonParts
mod SaidReferences
mod SaidFields
mod SaidTypes
mod SaidShapes
pub mod SaidTop
mod DistinctNames
mod DistinctTop
pub mod FaultlessParts
mod FaultlessShapes
pub mod FaultlessTop
mod Agreeing
pub mod FormedParts
pub mod FormedShapes
mod OneParts
pub mod OneReading
mod Filled
mod OfTree
mod OfTreeTop
mod WrittenAt
pub mod JsonWritten
pub mod JsonGiven
mod WrittenNames
mod WrittenMembers
mod WrittenFields
mod WrittenShape
mod GivenGraph
mod WrittenTop
