pub mod MarkCuts
mod EntryLists
mod QuotedLists
mod TextForms
mod WrittenLists
mod WrittenQueries
