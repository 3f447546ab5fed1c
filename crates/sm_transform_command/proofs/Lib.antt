pub mod TransformForms
mod ChangedTexts
mod ChangedJson
mod Transforms
mod OneTransform
mod SomeTransform
