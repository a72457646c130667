pub mod Least
pub mod First
pub mod Walk
pub mod Positions
pub mod Looks
pub mod Models
pub mod Rows
