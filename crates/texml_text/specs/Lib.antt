pub mod Lines
pub mod File
pub mod Reader
pub mod Inside
