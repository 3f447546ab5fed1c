pub mod Handed
pub mod FitsAny
pub mod BodiesFed
pub mod BodiesRead
pub mod BodiesWritten
pub mod BodiesAnswered
pub mod TextAnswered
