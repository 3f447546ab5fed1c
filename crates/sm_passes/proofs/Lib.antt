mod EarlierRows
pub mod EntriesThere
pub mod EventsPut
pub mod FirstRows
pub mod IdsRise
pub mod ListParts
pub mod ListPut
pub mod Numbered
pub mod OwnKinds
pub mod OwnServices
pub mod OwnShapes
pub mod PartsPut
pub mod RowTested
mod ServiceClosures
pub mod SharedClosures
pub mod TraitEntries
pub mod Twins
