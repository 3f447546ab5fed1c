pub mod Identifier
pub mod IdText
pub mod TextParts
pub mod View
pub mod Answers
pub mod Fold
pub mod Laws
pub mod steps
