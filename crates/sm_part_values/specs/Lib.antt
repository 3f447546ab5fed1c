pub mod PartTexts
pub mod Joins
pub mod FormView
pub mod steps
