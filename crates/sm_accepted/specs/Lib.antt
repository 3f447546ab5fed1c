pub mod NoneFails
pub mod Laws
