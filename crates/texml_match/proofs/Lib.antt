pub mod Grouping
pub mod Delimiting
pub mod Feeding
pub mod Beginning
pub mod Growing
pub mod Rows
pub mod Building
