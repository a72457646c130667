pub mod Groups
pub mod Reading
pub mod Shape
pub mod Arguments
pub mod Left
pub mod Taking
