pub mod Chain
pub mod Rules
pub mod Levels
pub mod Prepared
