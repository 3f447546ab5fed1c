pub mod Played
pub mod Feeding
pub mod Taking
pub mod Turning
