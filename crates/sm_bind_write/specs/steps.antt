pub mod SeenParts
pub mod FieldsMet
pub mod Naming
pub mod FreeKeys
