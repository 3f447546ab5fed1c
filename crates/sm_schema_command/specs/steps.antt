pub mod SchemaSteps
