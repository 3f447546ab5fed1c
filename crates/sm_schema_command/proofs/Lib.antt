pub mod NamesWords
mod WordsCounted
mod NotesSame
mod Schemas
mod CompiledValues
mod OneSchema
