pub mod Numbers
pub mod Asked
pub mod Branches
pub mod Visit
pub mod Questions
pub mod FullSet
pub mod OneStamp
pub mod Examples
