pub mod Limits
pub mod Skipping
