pub mod Trace
pub mod Telling
pub mod Writing
pub mod Lending
