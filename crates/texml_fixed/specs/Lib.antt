pub mod Arithmetic
pub mod Decimals
pub mod Glue
pub mod Printing
pub mod Putting
pub mod Units
