pub mod Owning
pub mod Walks
pub mod Leading
pub mod Rows
