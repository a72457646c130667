pub mod Pieces
pub mod Going
pub mod Wording
pub mod Weighing
pub mod Rows
pub mod Known
