pub mod Comparing
pub mod Numbers
