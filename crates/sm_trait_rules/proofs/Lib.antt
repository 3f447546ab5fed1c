mod ConflictsTold
mod ExclusiveTraits
pub mod FirstTexts
pub mod JudgedTraits
mod PlacesPut
pub mod PlacesTold
mod Singles
pub mod SomeJoined
mod TableTold
mod TextsHeld
pub mod TraitsThere
pub mod UnknownTraits
mod UsesPut
