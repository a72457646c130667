pub mod Table
pub mod Translation
pub mod Same
pub mod Writing
pub mod Scalar
pub mod Rows
pub mod Naming
