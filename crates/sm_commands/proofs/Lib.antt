pub mod OneForm
pub mod Commanded
pub mod Runs
pub mod OneRun
pub mod QuietRun
