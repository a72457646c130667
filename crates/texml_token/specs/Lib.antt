pub mod Token
pub mod Spelling
pub mod Pieces
pub mod Numbers
pub mod Faults
pub mod Shared
