pub mod ErrorIds
