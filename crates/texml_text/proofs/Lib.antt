pub mod Trimmed
pub mod Cutting
pub mod Filling
pub mod Taking
pub mod Rows
