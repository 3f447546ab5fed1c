pub mod RowPlaces
mod NumbersRun
mod NamesOrdered
mod MoreRows
mod AddedRows
mod MoreShaped
pub mod Extending
