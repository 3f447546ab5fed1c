pub mod Literals
pub mod SameVals
pub mod ValueViews
pub mod ValueOrders
pub mod NamedMembers
pub mod FieldPlaces
pub mod PatternNumbers
pub mod FirstBroken
mod MembersPut
pub mod SortedTwice
mod KnownValues
pub mod Regexes
mod WholeCharacters
pub mod Searches
