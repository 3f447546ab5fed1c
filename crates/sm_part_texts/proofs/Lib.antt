mod JoinedEntries
mod OtherTexts
pub mod TextsHad
