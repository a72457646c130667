pub mod Html
pub mod Walk
pub mod Small
pub mod Writing
