pub mod PlaceTexts
pub mod CarriedTexts
pub mod Spots
pub mod Laws
pub mod steps
