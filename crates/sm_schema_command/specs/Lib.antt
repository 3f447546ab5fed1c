pub mod SchemaForm
pub mod Schema
pub mod steps
