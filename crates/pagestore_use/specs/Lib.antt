pub mod Moved
pub mod MovedLaws
