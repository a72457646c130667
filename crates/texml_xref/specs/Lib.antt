pub mod Refs
pub mod Linked
pub mod Links
pub mod Found
