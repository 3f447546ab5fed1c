pub mod Ascii
pub mod Utf8
pub mod Escapes
pub mod Lengths
