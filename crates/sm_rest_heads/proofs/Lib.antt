pub mod Payloads
pub mod RoutesAsked
