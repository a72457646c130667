pub mod Looking
pub mod Naming
pub mod Biting
pub mod Left
pub mod Falls
pub mod Rows
