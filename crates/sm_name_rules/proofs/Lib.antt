mod AlikeHeld
mod CaseTwins
mod GivenNames
mod NamesApart
mod NamesNumbered
pub mod NamesTold
mod NumbersCounted
mod RepeatedNames
mod RowsBelow
