pub mod Calendar
pub mod Civil
pub mod TimeText
pub mod Written
pub mod Answers
pub mod StampTexts
pub mod Laws
pub mod steps
