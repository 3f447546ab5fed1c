pub mod Rising
pub mod InOrderParts
pub mod Onward
pub mod CheckedParts
