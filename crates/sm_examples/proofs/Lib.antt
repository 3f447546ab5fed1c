mod ErrorsById
mod InputOrders
mod ExamplesAt
pub mod EntriesRead
pub mod FirstOnce
