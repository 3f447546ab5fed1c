pub mod DoorsSeen
pub mod Bytes
pub mod MemSeen
