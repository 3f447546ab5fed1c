pub mod Cutting
pub mod Identifiers
pub mod Namespaces
pub mod Spellings
mod Aheads
mod Breaking
mod Scanning
mod Finding
pub mod Parting
mod Grammar
pub mod PartOrder
mod IdAnswers
pub mod MadeIds
pub mod TextCuts
