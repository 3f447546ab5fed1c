pub mod ExampleData
pub mod Entries
pub mod FirstExamples
pub mod ExampleLaws
pub mod ExampleView
pub mod InputOrder
pub mod ExamplesView
pub mod steps
