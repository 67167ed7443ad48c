pub mod Numbers
pub mod Points
pub mod Features
pub mod Stored
pub mod Keys
pub mod Slices
pub mod Examples
