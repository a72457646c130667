pub mod Looked
pub mod Mouth
pub mod Seen
pub mod Inside
