pub mod Weight
pub mod NumberBytes
pub mod BuilderSteps
pub mod Handing
pub mod Canonical
pub mod FormOrder
