pub mod Rising
pub mod Blocks
pub mod Linking
pub mod TargetNumbers
