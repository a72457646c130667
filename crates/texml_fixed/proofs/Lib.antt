pub mod Signed
pub mod Quotients
pub mod Places
pub mod Putting
pub mod Printed
pub mod ReadsBack
pub mod Rows
