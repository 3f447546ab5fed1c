pub mod Conflicting
pub mod Excluding
pub mod Judging
pub mod Knowing
pub mod Placing
pub mod Silent
pub mod StandingTraits
pub mod Twice
