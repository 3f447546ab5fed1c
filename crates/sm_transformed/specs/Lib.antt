pub mod Transformed
pub mod Laws
