pub mod Framing
pub mod Exchanges
