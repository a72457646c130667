pub mod Readings
pub mod Looping
pub mod Rooms
pub mod Doing
pub mod Parts
pub mod NewCommands
pub mod Commands
pub mod Worlds
pub mod ParameterTexts
pub mod Macros
pub mod Quantities
pub mod LetterCases
pub mod NewConditionals
mod Rows
