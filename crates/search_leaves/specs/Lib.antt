pub mod Columns
pub mod Offering
