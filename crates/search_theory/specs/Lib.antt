pub mod Nearest
pub mod Marks
pub mod Ranges
pub mod Frontier
