pub mod Bounding
pub mod Checking
pub mod Defaulting
pub mod Enums
pub mod Nodes
pub mod SeenValues
pub mod Silent
pub mod Valuing
