pub mod ErrorsSaid
pub mod HttpSaid
pub mod OwnStructures
mod SomePasses
