pub mod Assembled
pub mod ViewLaws
pub mod Refuted
pub mod Decided
