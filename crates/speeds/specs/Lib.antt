pub mod FormatCommands
pub mod FormatTurns
pub mod ModelTurns
pub mod HttpCommands
pub mod HttpTurns
