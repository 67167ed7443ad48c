pub mod Rows
pub mod Held
