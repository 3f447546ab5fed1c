pub mod Sides
pub mod Bodies
pub mod Fed
pub mod TextAnswers
pub mod AnswerView
pub mod TextLaws
pub mod EncodedTexts
pub mod steps
