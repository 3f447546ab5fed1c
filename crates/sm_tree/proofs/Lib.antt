pub mod Views
pub mod NodeKinds
mod SameViews
mod SameOrder
mod SameForms
pub mod Equal
pub mod Events
pub mod Building
pub mod Streams
pub mod Awaited
pub mod OpenLevels
pub mod NestedRoom
pub mod ListEnds
pub mod Counted
pub mod Handing
pub mod NumberParts
pub mod NumberRuns
pub mod NumberSteps
pub mod DigitRuns
pub mod Numbers
mod Tokens
pub mod Sameness
pub mod SameSizes
pub mod OneAnswer
pub mod SomeAnswer
pub mod LongerBytes
pub mod Sources
mod ShortTexts
