pub mod Tallies
pub mod Filling
pub mod Delivered
